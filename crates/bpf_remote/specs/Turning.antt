-- Scaffolding: what answering one item leaves.
use Rattle.std.specs.Prelude.{◌≡◌, ◌≤◌, ℕ, Bool, true, List, length, Option, Result}
use lib.Chars.{codes}
use Rattle.counted_io.specs.Counted.{Tally}
use Rattle.counted_io.specs.Writing.{Writes}
use Rattle.bpf_entries.specs.Keeping.{Kept}
use Rattle.bpf_session.specs.Sessions.{SessionValue}
use Rattle.bpf_origin.specs.declared.fault.WhatFault.{WhatFault}
use Rattle.bpf_origin.specs.declared.what.What.{What}
use Rattle.bpf_remote.specs.Numbers.{behind}
use Rattle.bpf_remote.specs.Packets.{Buffer, Holds, longest_body}
use Rattle.bpf_remote.specs.Requests.{request_of}
use Rattle.bpf_remote.specs.Connections.{Desk, Place, Does, DoesAsked, DoesBody, DoesLine, DoesRequest, DoesWhy}
use Rattle.bpf_remote.specs.declared.stream.Item.{Item}
use Rattle.bpf_remote.specs.declared.stream.Item.TheVariants.{Packet, End}
use Rattle.bpf_remote.specs.declared.talk.Talk.{Talk}

-- An end of a turn.
pub record Side (K W : Type 0) : Type 0 where
  pub session : SessionValue K
  pub talk : Talk
  pub writer : Tally W

abbrev pub place : {K W : Type 0} → Side K W → List ℕ → Place K
place s last = record { session = s.session; manners = s.talk.manners; last = last }

abbrev pub desk : {K W : Type 0} → Side K W → List ℕ → Desk K
desk s last = record { place = place s last; conditions = s.talk.conditions }

-- Something was done and told: this is where the connection then is, what was told, and whether it goes on.
pub record Tells {K W A E : Type 0} (contents : W → Option (List ℕ)) (before after : Side K W) (result : Result A E)
    (does : List ℕ → List ℕ → Bool → Type 0) (on : Bool) : Type 0 where
  pub last : List ℕ
  pub told : List ℕ
  pub done : does last told on
  pub held : Holds after.talk.answer last
  pub written : Writes contents before.writer after.writer result told

module _ {K W : Type 0} (holds : K → List Kept → Type 0) (refusals room : K → ℕ) (contents : W → Option (List ℕ)) where
  abbrev pub AnswersAsked : {A E : Type 0} → Side K W → Side K W → Result A E → Option (Result (Option What) WhatFault) × List ℕ → Type 0
  AnswersAsked old new result line = (before : List ℕ)
      → Tells contents old new result (λ last told on. DoesAsked holds refusals room (place old before) (place new last) line.0 line.1 told on) true

  abbrev pub AnswersWhy : {A E : Type 0} → Side K W → Side K W → Result A E → Option (List ℕ) × List ℕ → Type 0
  AnswersWhy old new result line = (before : List ℕ)
      → Tells contents old new result (λ last told on. DoesWhy holds refusals room (place old before) (place new last) line.0 line.1 told on) true

  abbrev pub AnswersLine : {A E : Type 0} → Side K W → Side K W → Result A E → List ℕ → Type 0
  AnswersLine old new result digits = (before : List ℕ)
      → Tells contents old new result (λ last told on. DoesLine holds refusals room (place old before) (place new last) digits told on) true

  abbrev pub AnswersRequest : {A E : Type 0} → Side K W → Side K W → Result A E × Bool → List ℕ → Type 0
  AnswersRequest old new answered body = (before : List ℕ)
      → Tells contents old new answered.0 (λ last told on. DoesRequest holds refusals room (desk old before) (desk new last) (request_of body) told on) answered.1

  abbrev pub AnswersBody : {A E : Type 0} → Side K W → Side K W → Result A E × Bool → List ℕ → Type 0
  AnswersBody old new answered body = (before : List ℕ)
      → Tells contents old new answered.0 (λ last told on. DoesBody holds refusals room (desk old before) (desk new last) body (behind (codes "qRcmd,") body) told on) answered.1

  abbrev pub TakesTurn : {A E : Type 0} → Side K W → Side K W → Result A E × Bool → Item × Buffer → Type 0
  TakesTurn old new answered asked = (before body : List ℕ) → Holds old.talk.answer before
      → (asked.0 ≡ Packet → Holds asked.1 body × (length body ≤ longest_body)) → (asked.0 ≡ End → ⊥)
      → Tells contents old new answered.0 (λ last told on. Does holds refusals room (desk old before) (desk new last) asked.0 body told on) answered.1
