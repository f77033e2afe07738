-- What answers a packet answers its item.
use Rattle.std.proofs.Common.{◌≡◌, ℕ, Bool, true, List, [], Option, Some, None, Result, sym, ap, subst, ◌∙◌}
use lib.Chars.{codes}
use Rattle.std.specs.Option.{option_map}
use Rattle.bpf_agent.specs.Conditions.{ConditionList}
use Rattle.bpf_entries.specs.Keeping.{Kept}
use Rattle.bpf_remote.specs.Connections.{Does, DoesAsked, DoesBody, DoesLine, DoesRequest, DoesWhy}
use Rattle.bpf_origin.specs.declared.fault.WhatFault.{WhatFault}
use Rattle.bpf_origin.specs.declared.what.What.{What}
use Rattle.bpf_remote.specs.Numbers.{behind}
use Rattle.bpf_remote.specs.Requests.{request_of}
use Rattle.bpf_remote.specs.Turning.{Side, Tells, desk, place}
use Rattle.bpf_remote.specs.declared.stream.Item.{Item}
use Rattle.bpf_remote.specs.declared.stream.Item.TheVariants as item

pub mapped-some : {A B : Type 0} (f : A → B) (r : Option A) (b : Option B) (a : A) → option_map f r ≡ b → r ≡ Some a → b ≡ Some (f a)
mapped-some f r b a e i = sym e ∙ ap (option_map f) i

pub mapped-none : {A B : Type 0} (f : A → B) (r : Option A) (b : Option B) → option_map f r ≡ b → r ≡ None → b ≡ None
mapped-none f r b e i = sym e ∙ ap (option_map f) i

module _ {K W : Type 0} (holds : K → List Kept → Type 0) (refusals room : K → ℕ) (contents : W → Option (List ℕ)) (old new : Side K W) where
  -- what answers a line answers the body around it, behind which no condition is kept
  pub by-line : {A E : Type 0} (result : Result A E) (conditions : ConditionList) (on : Bool) (before body : List ℕ) (found : Option (List ℕ)) (digits : List ℕ) → found ≡ Some digits → new.talk.conditions ≡ []
      → Tells contents old (record new { talk = record new.talk { conditions = conditions } }) result (λ last told on. DoesLine holds refusals room (place old before) (place new last) digits told on) on
      → Tells contents old new result (λ last told on. DoesBody holds refusals room (desk old before) (desk new last) body found told on) on
  by-line result conditions on before body found digits e none t =
      subst (λ (v : Option (List ℕ)). Tells contents old new result (λ last told on. DoesBody holds refusals room (desk old before) (desk new last) body v told on) on) (sym e)
      (record { last = t.last; told = t.told; done = (t.done, none); held = t.held; written = t.written })

  pub by-asked : {A E : Type 0} (result : Result A E) (before digits : List ℕ) (found asked : Option (Result (Option What) WhatFault)) → found ≡ asked
      → Tells contents old new result (λ last told on. DoesAsked holds refusals room (place old before) (place new last) asked digits told on) true
      → Tells contents old new result (λ last told on. DoesAsked holds refusals room (place old before) (place new last) found digits told on) true
  by-asked result before digits found asked e t =
      subst (λ (v : Option (Result (Option What) WhatFault)). Tells contents old new result (λ last told on. DoesAsked holds refusals room (place old before) (place new last) v digits told on) true) (sym e) t

  pub by-why : {A E : Type 0} (result : Result A E) (before digits : List ℕ) (found asked : Option (List ℕ)) → found ≡ asked
      → Tells contents old new result (λ last told on. DoesWhy holds refusals room (place old before) (place new last) asked digits told on) true
      → Tells contents old new result (λ last told on. DoesWhy holds refusals room (place old before) (place new last) found digits told on) true
  by-why result before digits found asked e t =
      subst (λ (v : Option (List ℕ)). Tells contents old new result (λ last told on. DoesWhy holds refusals room (place old before) (place new last) v digits told on) true) (sym e) t

  pub by-request : {A E : Type 0} (result : Result A E) (on : Bool) (before body : List ℕ) (found : Option (List ℕ)) → found ≡ None
      → Tells contents old new result (λ last told on. DoesRequest holds refusals room (desk old before) (desk new last) (request_of body) told on) on
      → Tells contents old new result (λ last told on. DoesBody holds refusals room (desk old before) (desk new last) body found told on) on
  by-request result on before body found e t =
      subst (λ (v : Option (List ℕ)). Tells contents old new result (λ last told on. DoesBody holds refusals room (desk old before) (desk new last) body v told on) on) (sym e) t

  pub by-body : {A E : Type 0} (result : Result A E) (on : Bool) (before bytes body : List ℕ) (said : Item) → said ≡ item.Packet → bytes ≡ body
      → Tells contents old new result (λ last told on. DoesBody holds refusals room (desk old before) (desk new last) bytes (behind (codes "qRcmd,") bytes) told on) on
      → Tells contents old new result (λ last told on. Does holds refusals room (desk old before) (desk new last) said body told on) on
  by-body result on before bytes body said e f t =
      subst (λ (v : Item). Tells contents old new result (λ last told on. Does holds refusals room (desk old before) (desk new last) v body told on) on) (sym e)
      (subst (λ (v : List ℕ). Tells contents old new result (λ last told on. Does holds refusals room (desk old before) (desk new last) item.Packet v told on) on) f t)

  pub by-item : {A E : Type 0} (result : Result A E) (on : Bool) (before body : List ℕ) (said other : Item) → said ≡ other
      → Tells contents old new result (λ last told on. Does holds refusals room (desk old before) (desk new last) other body told on) on
      → Tells contents old new result (λ last told on. Does holds refusals room (desk old before) (desk new last) said body told on) on
  by-item result on before body said other e t =
      subst (λ (v : Item). Tells contents old new result (λ last told on. Does holds refusals room (desk old before) (desk new last) v body told on) on) (sym e) t
