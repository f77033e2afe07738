-- Turns of a connection, one after another.
use Rattle.std.proofs.Common.{◌≡◌, ◌≤◌, inl, inr, ℕ, Bool, true, false, List, [], ◌∷◌, Option, Some, None, Result, Ok, Err, IfOk, length, refl, sym, ap, subst, ◌∙◌, arith}
use Rattle.std.specs.Prelude.{MatchOption}
use Rattle.std.proofs.lemmas.Bool.{le-ltb}
use Rattle.std.specs.Io.KnownBytes.{Appends}
use Rattle.counted_io.specs.Counted.{Tally, one_more}
use Rattle.counted_io.specs.Writing.{Writes}
use Rattle.counted_io.proofs.Appending.{Appends-Appends, Appends-nil}
use Rattle.bpf_agent.specs.Conditions.{ConditionList}
use Rattle.bpf_entries.specs.Keeping.{Kept}
use Rattle.bpf_session.specs.Sessions.{SessionValue}
use Rattle.bpf_session.specs.declared.fault.RunFault.TheVariants.{Read, Write}
use Rattle.bpf_remote.specs.Answers.{sent}
use Rattle.bpf_remote.specs.Connections.{Desk, Turn, AreTurns, GoOn, end_of, read_in, told_in, Does}
use Rattle.bpf_remote.specs.Packets.{Buffer, Holds, IsItem, longest_body, is_end}
use Rattle.bpf_remote.specs.Serving.{Ends, Serves, Breaks, opening}
use Rattle.bpf_remote.specs.Streams.{Reads, ReadsItem}
use Rattle.bpf_remote.specs.Turning.{Side, TakesTurn}
use Rattle.bpf_remote.specs.declared.manners.Manners.{Manners}
use Rattle.bpf_remote.specs.declared.stream.Item.{Item}
use Rattle.bpf_remote.specs.declared.stream.Item.TheVariants as item
use Rattle.bpf_remote.specs.declared.talk.Talk.{Talk}
use Rattle.bpf_remote.specs.declared.target.Target.{Target}
use Rattle.bpf_remote.proofs.Reading.{Reads-none, Reads-trans, Reads-Fails, IsAll-trans}

pub sent-short : (text : List ℕ) → length text ≤ longest_body → text ≡ sent text
sent-short text h = rw (le-ltb longest_body (length text) h) refl

pub of-some : {A : Type 0} (r : Option A) (a : A) (P : Type 0) (Q : A → Type 0) → r ≡ Some a → MatchOption r P Q → Q a
of-some {A = A} r a P Q e m = subst (λ (v : Option A). MatchOption v P Q) e m

pub of-none : {A : Type 0} (r : Option A) (P : Type 0) (Q : A → Type 0) → r ≡ None → MatchOption r P Q → P
of-none {A = A} r P Q e m = subst (λ (v : Option A). MatchOption v P Q) e m

-- an item that was read has its body in the buffer
as-turn : (said : Item) (bytes : List ℕ) (buffer : Buffer) → IsItem said bytes buffer → IsItem said bytes (record { bytes = buffer.bytes; is_long = false })
as-turn item.Packet bytes buffer (noise, tail, quiet, parts, (body, high, low, frame, sum, short, has, whole)) = (noise, tail, quiet, parts, (body, high, low, frame, sum, short, has, refl))
as-turn item.Damaged bytes buffer i = i
as-turn item.Again bytes buffer i = i
as-turn item.End bytes buffer i = i

held-whole : (bytes : List ℕ) (long : Bool) → long ≡ false → Holds (record { bytes = bytes; is_long = long }) bytes
held-whole bytes true e = absurd cc
held-whole bytes false e = refl

body-held : (said : Item) (bytes : List ℕ) (buffer : Buffer) → IsItem said bytes buffer → said ≡ item.Packet → Holds buffer buffer.bytes × (length buffer.bytes ≤ longest_body)
body-held item.Packet bytes buffer (noise, tail, quiet, parts, (body, high, low, frame, sum, short, has, whole)) e =
    (held-whole buffer.bytes buffer.is_long whole, subst (λ (v : List ℕ). length v ≤ longest_body) (sym has) short)
body-held item.Damaged bytes buffer i e = absurd cc
body-held item.Again bytes buffer i e = absurd cc
body-held item.End bytes buffer i e = absurd cc

pub is-end : (said : Item) → is_end said ≡ true → said ≡ item.End
is-end item.Packet e = absurd cc
is-end item.Damaged e = absurd cc
is-end item.Again e = absurd cc
is-end item.End e = refl

pub no-end : (said : Item) → is_end said ≡ false → said ≡ item.End → ⊥
no-end item.Packet e f = cc
no-end item.Damaged e f = cc
no-end item.Again e f = cc
no-end item.End e f = cc

module _ {K R W : Type 0} (holds : K → List Kept → Type 0) (refusals room : K → ℕ) (remaining : R → Option (List ℕ)) (contents : W → Option (List ℕ)) where
  -- what holds between two turns
  pub record Serving (gdb : Target) (from now : SessionValue K) (talk : Talk) (reader reader' : Tally R) (writer writer' : Tally W) : Type 0 where
    pub nearer : reader.reads ≤ reader'.reads
    pub turns : List (Turn holds refusals room)
    pub are : AreTurns holds refusals room (opening gdb from) turns
    pub on : GoOn holds refusals room turns
    pub session : (end_of holds refusals room (opening gdb from) turns).place.session ≡ now
    pub polite : (end_of holds refusals room (opening gdb from) turns).place.manners ≡ talk.manners
    pub kept : (end_of holds refusals room (opening gdb from) turns).conditions ≡ talk.conditions
    pub held : Holds talk.answer (end_of holds refusals room (opening gdb from) turns).place.last
    pub read : Reads remaining reader reader' (read_in holds refusals room turns)
    pub told : Appends (contents writer.inner) (contents writer'.inner) (told_in holds refusals room turns)
    pub same : writer'.failures ≡ writer.failures

  pub Serving-start : (gdb : Target) (from : SessionValue K) (talk : Talk) (reader : Tally R) (writer : Tally W) → (record { acknowledges = true; swbreak = false; target = gdb; moves = 0 }) ≡ talk.manners → talk.conditions ≡ [] → Holds talk.answer []
      → Serving gdb from from talk reader reader writer writer
  Serving-start gdb from talk reader writer e none h = record {
    nearer = omega arith;
    turns = [];
    are = tt;
    on = tt;
    session = refl;
    polite = e;
    kept = sym none;
    held = h;
    read = Reads-none remaining reader;
    told = Appends-nil (contents writer.inner);
    same = refl;
  }

  -- an end of a turn
  abbrev side : SessionValue K → Talk → Tally W → Side K W
  side session talk writer = record { session = session; talk = talk; writer = writer }

  -- a turn that was taken behind some
  pub record Taken (gdb : Target) (from : SessionValue K) (reader reader' : Tally R) (writer : Tally W) (session : SessionValue K) (talk : Talk) (on : Bool) : Type 0 where
    pub turn : Turn holds refusals room
    pub turns : List (Turn holds refusals room)
    pub are : AreTurns holds refusals room (opening gdb from) (turn ∷ turns)
    pub on_is : turn.on ≡ on
    pub session_is : turn.after.place.session ≡ session
    pub manners_is : turn.after.place.manners ≡ talk.manners
    pub conditions_is : turn.after.conditions ≡ talk.conditions
    pub held : Holds talk.answer turn.after.place.last
    pub nearer : reader.reads ≤ reader'.reads
    pub read : Reads remaining reader reader' (read_in holds refusals room (turn ∷ turns))

  -- what was told of it
  pub record Wrote {A E : Type 0} (writer now writer' : Tally W) (before told : List ℕ) (result : Result A E) : Type 0 where
    pub first : Appends (contents writer.inner) (contents now.inner) before
    pub same : now.failures ≡ writer.failures
    pub then : Writes contents now writer' result told

  take : {A E F : Type 0} (gdb : Target) (from session session' : SessionValue K) (talk talk' : Talk) (request : Buffer) (reader reader' reader'' : Tally R) (writer writer' writer'' : Tally W)
      (said : Item) (result : Result A E) (on : Bool)
      → Serving gdb from session talk reader reader' writer writer'
      → ReadsItem {E = F} remaining reader' reader'' request (Ok said) → is_end said ≡ false
      → TakesTurn holds refusals room contents (side session talk writer') (side session' talk' writer'') (result, on) (said, request)
      → (t : Taken gdb from reader reader'' writer session' talk' on) × Wrote writer writer' writer'' (told_in holds refusals room t.turns) t.turn.told result
  take gdb from session session' talk talk' request reader reader' reader'' writer writer' writer'' said result on s r more takes =
      let i = r.item in
      let at = end_of holds refusals room (opening gdb from) s.turns in
      let last = at.place.last in
      let done = takes last request.bytes s.held (body-held said i.0 request i.2) (no-end said more) in
      let here : at ≡ record { place = record { session = session; manners = talk.manners; last = last }; conditions = talk.conditions } =
      ap (λ (v : SessionValue K). record { place = record { session = v; manners = at.place.manners; last = last }; conditions = at.conditions }) s.session
      ∙ ap (λ (v : Manners). record { place = record { session = session; manners = v; last = last }; conditions = at.conditions }) s.polite
      ∙ ap (λ (v : ConditionList). record { place = record { session = session; manners = talk.manners; last = last }; conditions = v }) s.kept in
      let t : Turn holds refusals room = record {
        read = i.0;
        said = said;
        body = request.bytes;
        told = done.told;
        on = on;
        after = record { place = record { session = session'; manners = talk'.manners; last = done.last }; conditions = talk'.conditions };
      } in
      let n = r.nearer in
      let m = s.nearer in (
        record {
          turn = t;
          turns = s.turns;
          are = ((as-turn said i.0 request i.2, subst (λ (v : Desk K). Does holds refusals room v t.after said request.bytes done.told on) (sym here) done.done), s.on, s.are);
          on_is = refl;
          session_is = refl;
          manners_is = refl;
          conditions_is = refl;
          held = done.held;
          nearer = omega arith;
          read = Reads-trans remaining reader reader' reader'' (read_in holds refusals room s.turns) i.0 s.read i.1;
        },
        record { first = s.told; same = s.same; then = done.written },
      )

  -- the next turn follows
  Serving-more : {E : Type 0} (gdb : Target) (from session : SessionValue K) (talk : Talk) (reader reader' : Tally R) (writer now writer' : Tally W) (on value : Bool)
      → (t : Taken gdb from reader reader' writer session talk on) → Wrote {E = E} writer now writer' (told_in holds refusals room t.turns) t.turn.told (Ok value) → on ≡ true
      → Serving gdb from session talk reader reader' writer writer'
  Serving-more gdb from session talk reader reader' writer now writer' on value t w e = record {
    nearer = t.nearer;
    turns = t.turn ∷ t.turns;
    are = t.are;
    on = t.on_is ∙ e;
    session = t.session_is;
    polite = t.manners_is;
    kept = t.conditions_is;
    held = t.held;
    read = t.read;
    told = Appends-Appends _ _ _ (told_in holds refusals room t.turns) t.turn.told w.first w.then.ok;
    same = w.then.same ∙ w.same;
  }

  abbrev ends : Target → SessionValue K → SessionValue K → Tally R → Tally R → Tally W → Tally W → Ends K R W
  ends gdb from to reader reader' writer writer' = record { gdb = gdb; from = from; to = to; reader = reader; reader' = reader'; writer = writer; writer' = writer' }

  -- gdb leaves
  Serves-left : {E : Type 0} (gdb : Target) (from session : SessionValue K) (talk : Talk) (reader reader' : Tally R) (writer now writer' : Tally W) (on value : Bool)
      → (t : Taken gdb from reader reader' writer session talk on) → Wrote {E = E} writer now writer' (told_in holds refusals room t.turns) t.turn.told (Ok value) → on ≡ false
      → Serves holds refusals room remaining contents (ends gdb from session reader reader' writer writer')
  Serves-left gdb from session talk reader reader' writer now writer' on value t w e = (
    t.turn ∷ t.turns,
    t.are,
    t.session_is,
    (Appends-Appends _ _ _ (told_in holds refusals room t.turns) t.turn.told w.first w.then.ok, w.then.same ∙ w.same),
    inl ((λ f. (let u = t.on_is in cc)), t.read),
  )

  -- the stream ends
  pub Serves-ended : {F : Type 0} (gdb : Target) (from session : SessionValue K) (talk : Talk) (request : Buffer) (reader reader' reader'' : Tally R) (writer writer' : Tally W) (said : Item)
      → Serving gdb from session talk reader reader' writer writer' → ReadsItem {E = F} remaining reader' reader'' request (Ok said) → is_end said ≡ true
      → Serves holds refusals room remaining contents (ends gdb from session reader reader'' writer writer')
  Serves-ended gdb from session talk request reader reader' reader'' writer writer' said s r e =
      let i = r.item in
      let f = is-end said e in (
        s.turns,
        s.are,
        s.session,
        (s.told, s.same),
        inr (
          i.0,
          s.on,
          subst (λ (v : Item). IsItem v i.0 request) f i.2,
          Reads-trans remaining reader reader' reader'' (read_in holds refusals room s.turns) i.0 s.read i.1,
          IsAll-trans remaining reader reader' (read_in holds refusals room s.turns) i.0 s.read (i.3 f),
        ),
      )

  -- a read fails
  pub Breaks-read : {E : Type 0} (gdb : Target) (from session : SessionValue K) (talk : Talk) (request : Buffer) (reader reader' reader'' : Tally R) (writer writer' : Tally W) (fault : E)
      → Serving gdb from session talk reader reader' writer writer' → ReadsItem remaining reader' reader'' request (Err fault)
      → Breaks holds refusals room remaining contents Read (ends gdb from session reader reader'' writer writer')
  Breaks-read gdb from session talk request reader reader' reader'' writer writer' fault s r =
      let p = r.part in
      (s.turns, s.are, s.session, (s.told, s.same), s.on, p.0, p.2, Reads-Fails remaining reader reader' reader'' (read_in holds refusals room s.turns) p.0 s.read p.1)

  -- a write fails
  Breaks-write : {A E : Type 0} (gdb : Target) (from session : SessionValue K) (talk : Talk) (reader reader' : Tally R) (writer now writer' : Tally W) (on : Bool) (fault : E)
      → (t : Taken gdb from reader reader' writer session talk on) → Wrote {A = A} writer now writer' (told_in holds refusals room t.turns) t.turn.told (Err fault)
      → Breaks holds refusals room remaining contents Write (ends gdb from session reader reader' writer writer')
  Breaks-write gdb from session talk reader reader' writer now writer' on fault t w =
      let e = w.then.err in
      (t.turn, t.turns, t.are, t.session_is, t.read, e.0, e.1, e.2, Appends-Appends _ _ _ (told_in holds refusals room t.turns) e.0 w.first e.3, w.then.fault ∙ ap one_more w.same)

  -- what a turn was taken with
  abbrev Turned : {E : Type 0} → SessionValue K → SessionValue K → Talk → Talk → Buffer → Tally W → Tally W → Item → Result Bool E → Type 0
  Turned session session' talk talk' request writer writer' said result = (on : Bool) × IfOk result (λ more. more ≡ on)
      × TakesTurn holds refusals room contents (side session talk writer) (side session' talk' writer') (result, on) (said, request)

  -- behind a turn: the next one, the end, a failure
  pub after-more : {E F : Type 0} (gdb : Target) (from session session' : SessionValue K) (talk talk' : Talk) (request : Buffer) (reader reader' reader'' : Tally R) (writer writer' writer'' : Tally W)
      (said : Item) (result : Result Bool E) (value : Bool)
      → Serving gdb from session talk reader reader' writer writer' → ReadsItem {E = F} remaining reader' reader'' request (Ok said) → is_end said ≡ false
      → Turned session session' talk talk' request writer' writer'' said result → result ≡ Ok value → value ≡ true → Serving gdb from session' talk' reader reader'' writer writer''
  after-more gdb from session session' talk talk' request reader reader' reader'' writer writer' writer'' said (Err x) value s r more t e on = absurd cc
  after-more gdb from session session' talk talk' request reader reader' reader'' writer writer' writer'' said (Ok y) value s r more t e on =
      let k = take gdb from session session' talk talk' request reader reader' reader'' writer writer' writer'' said (Ok y) t.0 s r more t.2 in
      let u : t.0 ≡ true = sym t.1 ∙ cc in
      Serving-more gdb from session' talk' reader reader'' writer writer' writer'' t.0 y k.0 k.1 u

  pub after-left : {E F : Type 0} (gdb : Target) (from session session' : SessionValue K) (talk talk' : Talk) (request : Buffer) (reader reader' reader'' : Tally R) (writer writer' writer'' : Tally W)
      (said : Item) (result : Result Bool E) (value : Bool)
      → Serving gdb from session talk reader reader' writer writer' → ReadsItem {E = F} remaining reader' reader'' request (Ok said) → is_end said ≡ false
      → Turned session session' talk talk' request writer' writer'' said result → result ≡ Ok value → value ≡ false → Serves holds refusals room remaining contents (ends gdb from session' reader reader'' writer writer'')
  after-left gdb from session session' talk talk' request reader reader' reader'' writer writer' writer'' said (Err x) value s r more t e on = absurd cc
  after-left gdb from session session' talk talk' request reader reader' reader'' writer writer' writer'' said (Ok y) value s r more t e on =
      let k = take gdb from session session' talk talk' request reader reader' reader'' writer writer' writer'' said (Ok y) t.0 s r more t.2 in
      let u : t.0 ≡ false = sym t.1 ∙ cc in
      Serves-left gdb from session' talk' reader reader'' writer writer' writer'' t.0 y k.0 k.1 u

  pub after-failure : {E F : Type 0} (gdb : Target) (from session session' : SessionValue K) (talk talk' : Talk) (request : Buffer) (reader reader' reader'' : Tally R) (writer writer' writer'' : Tally W)
      (said : Item) (result : Result Bool E) (fault : E)
      → Serving gdb from session talk reader reader' writer writer' → ReadsItem {E = F} remaining reader' reader'' request (Ok said) → is_end said ≡ false
      → Turned session session' talk talk' request writer' writer'' said result → result ≡ Err fault → Breaks holds refusals room remaining contents Write (ends gdb from session' reader reader'' writer writer'')
  after-failure gdb from session session' talk talk' request reader reader' reader'' writer writer' writer'' said (Ok y) fault s r more t e = absurd cc
  after-failure gdb from session session' talk talk' request reader reader' reader'' writer writer' writer'' said (Err x) fault s r more t e =
      let k = take gdb from session session' talk talk' request reader reader' reader'' writer writer' writer'' said (Err x) t.0 s r more t.2 in
      Breaks-write gdb from session' talk' reader reader'' writer writer' writer'' t.0 x k.0 k.1
