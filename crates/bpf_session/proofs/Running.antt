-- A run's loop: what the lines behind us came to, and what the rest comes to from there, make up what the script comes to.
use Rattle.std.proofs.Common.{◌≡◌, ◌+◌, ℕ, Bool, true, false, List, [], ◌∷◌, ◌++◌, Option, Some, None, Result, Ok, Err, IfOk, OnErr, refl, sym, ap, subst, ◌∙◌, arith, append_assoc, length}
use Rattle.std.proofs.lemmas.List.{append-nil, length-append}
use Rattle.std.proofs.lemmas.List.Sums.{sum_by-append}
use Rattle.std.proofs.lemmas.List.Elements.{All-push}
use Rattle.std.specs.List.{All}
use Rattle.std.specs.Io.KnownBytes.{Appends}
use Rattle.counted_io.specs.Counted.{Tally}
use Rattle.counted_io.specs.Writing.{Writes}
use Rattle.bpf_entries.specs.Keeping.{Kept}
use Rattle.bpf_journal.specs.Tracks.{Track}
use Rattle.bpf_session.specs.Points.{Point, Bounds}
use Rattle.bpf_session.specs.Sessions.{SessionValue, HasPast, StandsAt, bounds_of, point_of, refusals_with, refusals_after_all, track_at}
use Rattle.counted_io.specs.Lines.{lines}
use Rattle.bpfdb_script.specs.Commands.{command_of}
use Rattle.bpf_session.specs.Output.{Effect, effect, Walk, walk}
use Rattle.bpfdb_script.specs.Lines.{line_feeds}
use Rattle.bpf_session.specs.Runs.{BreaksOff, Exchange, GoesOn, HasStanding, Interrupts, Leaves, Prints, Reaches, Standing, Wrote}
use Rattle.bpfdb_script.specs.ReadLines.{Buffer, Holds, ReadsLine, is_missing, is_last}
use Rattle.bpf_session.specs.LineSteps.{ObeysLine}
use Rattle.bpf_session.specs.declared.fault.RunFault.{RunFault}
use Rattle.bpf_session.specs.declared.fault.RunFault.TheVariants.{Read, Write}
use Rattle.bpfdb_script.specs.declared.line.NextLine.{NextLine}
use Rattle.bpfdb_script.specs.declared.line.NextLine.TheVariants.{Ended, Last, Missing}

-- what a writer holds after a text
appended : (before after : Option (List ℕ)) (xs ys : List ℕ) → before ≡ Some xs → Appends before after ys → after ≡ Some (xs ++ ys)
appended None after xs ys e h = absurd cc
appended (Some zs) None xs ys e h = absurd h
appended (Some zs) (Some ws) xs ys e h = let s : zs ≡ xs = cc in ap Some (h ∙ ap (λ (v : List ℕ). v ++ ys) s)

-- what the lines before a walk print, and the gaps that they tell, come first
abbrev ahead_of : List ℕ → List (Option ℕ) → Walk → Walk
ahead_of text gaps w = record w { out = text ++ w.out; gaps = gaps ++ w.gaps }

ahead-twice : (a b : List ℕ) (g k : List (Option ℕ)) (w : Walk) → ahead_of a g (ahead_of b k w) ≡ ahead_of (a ++ b) (g ++ k) w
ahead-twice a b g k w =
    ap (λ (v : List ℕ). record w { out = v; gaps = g ++ (k ++ w.gaps) }) (sym (append_assoc a b w.out))
    ∙ ap (λ (v : List (Option ℕ)). record w { out = (a ++ b) ++ w.out; gaps = v }) (sym (append_assoc g k w.gaps))

-- a line after which the session goes on, and one after which it doesn't
walk-on : (gap : Option ℕ) (later : List (Option ℕ)) (b : Bounds) (line : List ℕ) (more : List (List ℕ)) (p : Point) (e : Effect) → effect gap b (command_of line) p ≡ e → e.gap ≡ gap → e.goes_on ≡ true → walk (gap ∷ later) b (line ∷ more) p ≡ ahead_of e.text (gap ∷ []) (walk later b more e.point)
walk-on gap later b line more p e is told on =
    let here : walk (gap ∷ later) b (line ∷ more) p ≡ ahead_of e.text (e.gap ∷ []) (walk later b more e.point) = rw (is, on) refl in
    here ∙ ap (λ (g : Option ℕ). ahead_of e.text (g ∷ []) (walk later b more e.point)) told

walk-off : (gap : Option ℕ) (later : List (Option ℕ)) (b : Bounds) (line : List ℕ) (more : List (List ℕ)) (p : Point) (e : Effect) → effect gap b (command_of line) p ≡ e → e.gap ≡ gap → e.goes_on ≡ false → walk (gap ∷ later) b (line ∷ more) p ≡ record { out = e.text; gaps = gap ∷ []; final = e.point; unread = more }
walk-off gap later b line more p e is told off =
    let here : walk (gap ∷ later) b (line ∷ more) p ≡ record { out = e.text; gaps = e.gap ∷ []; final = e.point; unread = more } = rw (is, off) refl in
    here ∙ ap (λ (g : Option ℕ). record { out = e.text; gaps = g ∷ []; final = e.point; unread = more }) told

-- a line after which the session goes on isn't `quit`
goes-on : (gap : Option ℕ) (b : Bounds) (line : List ℕ) (p : Point) (e : Effect) → effect gap b (command_of line) p ≡ e → e.goes_on ≡ true → GoesOn line
goes-on gap b line p e is on quits = let f : false ≡ true = ap (λ a. (effect gap b a p).goes_on) (sym quits) ∙ ap (λ (x : Effect). x.goes_on) is ∙ on in absurd cc

-- the refusals of one more gap
refusals-push : (gaps : List (Option ℕ)) (gap : Option ℕ) (n : ℕ) → refusals_after_all (gaps ++ gap ∷ []) n ≡ refusals_with gap (refusals_after_all gaps n)
refusals-push [] gap n = refl
refusals-push (g ∷ gaps) gap n = refusals-push gaps gap (refusals_with g n)

-- the line feeds of two texts, of which the second is one line's
feeds-append : (xs ys : List ℕ) → line_feeds (xs ++ ys) ≡ line_feeds xs + line_feeds ys
feeds-append xs ys = sum_by-append _ xs ys

feeds-line : (taken line : List ℕ) (n : ℕ) → line_feeds taken ≡ n → line_feeds line ≡ 0 → line_feeds (taken ++ (line ++ 10 ∷ [])) ≡ n + 1
feeds-line taken line n e none =
    let s : line_feeds (line ++ 10 ∷ []) ≡ line_feeds line + 1 = feeds-append line (10 ∷ []) in
    let t = feeds-append taken (line ++ 10 ∷ []) in
    omega (arith, e, none, s, t)

length-push : {A : Type 0} (xs : List A) (x : A) → length (xs ++ x ∷ []) ≡ length xs + 1
length-push xs x = length-append xs (x ∷ [])

module _ {K : Type 0} (holds : K → List Kept → Type 0) (refusals room : K → ℕ) where
  -- the lines behind us, none of them `quit`: their gaps, what they print and the point after them
  pub record Behind (old now : SessionValue K) (h : Track) (script : List ℕ) (ahead : List (List ℕ)) : Type 0 where
    pub done : List (List ℕ)
    pub gaps : List (Option ℕ)
    pub printed : List ℕ
    pub point : Point
    pub split : lines script ≡ done ++ ahead
    pub on : All GoesOn done
    pub each : length gaps ≡ length done
    pub counted : refusals now.moment.keeper ≡ refusals_after_all gaps (refusals old.moment.keeper)
    pub stands : StandsAt holds now point
    pub walked : (later : List (Option ℕ)) (more : List (List ℕ)) → walk (gaps ++ later) (bounds_of room old) (done ++ more) (point_of old h) ≡ ahead_of printed gaps (walk later (bounds_of room old) more point)

  -- one more of them
  record Turn (old now new : SessionValue K) (p : Point) (line : List ℕ) : Type 0 where
    pub gap : Option ℕ
    pub e : Effect
    pub is : effect gap (bounds_of room old) (command_of line) p ≡ e
    pub told : e.gap ≡ gap
    pub counted : refusals new.moment.keeper ≡ refusals_with gap (refusals now.moment.keeper)
    pub stands : StandsAt holds new e.point

  Behind-step : (old now new : SessionValue K) (h : Track) (script line : List ℕ) (all ahead : List (List ℕ)) (b : Behind old now h script all) → all ≡ line ∷ ahead → (t : Turn old now new b.point line) → t.e.goes_on ≡ true → Behind old new h script ahead
  Behind-step old now new h script line all ahead b cut t on = record {
    done = b.done ++ line ∷ [];
    gaps = b.gaps ++ t.gap ∷ [];
    printed = b.printed ++ t.e.text;
    point = t.e.point;
    split = b.split ∙ ap (λ (ls : List (List ℕ)). b.done ++ ls) cut ∙ sym (append_assoc b.done (line ∷ []) ahead);
    on = All-push GoesOn b.done line b.on (goes-on t.gap (bounds_of room old) line b.point t.e t.is on);
    each = length-push b.gaps t.gap ∙ ap (λ n. n + 1) b.each ∙ sym (length-push b.done line);
    counted = t.counted ∙ ap (refusals_with t.gap) b.counted ∙ sym (refusals-push b.gaps t.gap _);
    stands = t.stands;
    walked = λ later more.
        ap (λ (g : List (Option ℕ)). walk g (bounds_of room old) ((b.done ++ line ∷ []) ++ more) (point_of old h)) (append_assoc b.gaps (t.gap ∷ []) later)
        ∙ ap (λ (ls : List (List ℕ)). walk (b.gaps ++ t.gap ∷ later) (bounds_of room old) ls (point_of old h)) (append_assoc b.done (line ∷ []) more)
        ∙ b.walked (t.gap ∷ later) (line ∷ more)
        ∙ ap (ahead_of b.printed b.gaps) (walk-on t.gap later (bounds_of room old) line more b.point t.e t.is t.told on)
        ∙ ahead-twice b.printed t.e.text b.gaps (t.gap ∷ []) _;
  }

  -- what the lines behind us come to
  abbrev ended : List ℕ → List (Option ℕ) → Point → Walk
  ended text gaps p = record { out = text; gaps = gaps; final = p; unread = [] }

  -- also with more gaps
  done-walk : (old now : SessionValue K) (h : Track) (script : List ℕ) (ahead : List (List ℕ)) (b : Behind old now h script ahead) (later : List (Option ℕ)) → walk (b.gaps ++ later) (bounds_of room old) b.done (point_of old h) ≡ ended b.printed b.gaps b.point
  done-walk old now h script ahead b later =
      ap (λ (ls : List (List ℕ)). walk (b.gaps ++ later) (bounds_of room old) ls (point_of old h)) (sym (append-nil b.done))
      ∙ b.walked later []
      ∙ nothing later
    where
      nothing : (later : List (Option ℕ)) → ahead_of b.printed b.gaps (walk later (bounds_of room old) [] b.point) ≡ ended b.printed b.gaps b.point
      nothing later = ap (λ (v : List ℕ). ended v (b.gaps ++ []) b.point) (append-nil b.printed) ∙ ap (λ (g : List (Option ℕ)). ended b.printed g b.point) (append-nil b.gaps)

  end-walk : (old now : SessionValue K) (h : Track) (script : List ℕ) (ahead : List (List ℕ)) (b : Behind old now h script ahead) → walk b.gaps (bounds_of room old) b.done (point_of old h) ≡ ended b.printed b.gaps b.point
  end-walk old now h script ahead b = ap (λ (g : List (Option ℕ)). walk g (bounds_of room old) b.done (point_of old h)) (sym (append-nil b.gaps)) ∙ done-walk old now h script ahead b []

  all-lines : (old now : SessionValue K) (h : Track) (script : List ℕ) (ahead : List (List ℕ)) (b : Behind old now h script ahead) → length (lines script) ≡ length b.done + length ahead
  all-lines old now h script ahead b = ap length b.split ∙ length-append b.done ahead

  -- where a session stands at a point, and what holds of some standing that it has
  abbrev pub standing_at : SessionValue K → Point → Standing
  standing_at s p = record { point = p; bounds = bounds_of room s; refusals = refusals s.moment.keeper }

  abbrev pub Somewhere : SessionValue K → (Standing → Type 0) → Type 0
  Somewhere s P = (to : Standing) × HasStanding holds refusals room s to × P to

  -- what holds from where the session stands with each history holds from each standing that it has
  pub from-there : (P : Standing → Type 0) (old : SessionValue K) → ((h : Track) → HasPast holds old h → P (standing_at old (point_of old h))) → (from : Standing) → HasStanding holds refusals room old from → P from
  from-there P old each from s =
      subst P
      (ap (standing_at old) s.point.0
      ∙ ap (λ (b : Bounds). record { point = from.point; bounds = b; refusals = refusals old.moment.keeper }) s.bounds
      ∙ ap (λ (n : ℕ). record { point = from.point; bounds = from.bounds; refusals = n }) s.refusals)
      (each (track_at from.point) s.point.1)

  -- what lines come to that were obeyed
  reached : (old now : SessionValue K) (h : Track) (gaps : List (Option ℕ)) (ls : List (List ℕ)) (w : Walk) → w ≡ walk gaps (bounds_of room old) ls (point_of old h) → w.gaps ≡ gaps → length gaps + length w.unread ≡ length ls → refusals now.moment.keeper ≡ refusals_after_all gaps (refusals old.moment.keeper) → Reaches (standing_at old (point_of old h)) (standing_at now w.final) gaps ls
  reached old now h gaps ls w e told each counted = record {
    point = ap (λ (v : Walk). v.final) e;
    refusals = counted;
    told = ap (λ (v : Walk). v.gaps) (sym e) ∙ told;
    each = ap (λ (v : Walk). length gaps + length v.unread) (sym e) ∙ each;
  }

  printed : (old now : SessionValue K) (h : Track) (x : Exchange) (gaps : List (Option ℕ)) (w : Walk) → w ≡ walk gaps (bounds_of room old) (lines x.script) (point_of old h) → w.gaps ≡ gaps → length gaps + length w.unread ≡ length (lines x.script) → refusals now.moment.keeper ≡ refusals_after_all gaps (refusals old.moment.keeper) → StandsAt holds now w.final → Wrote x w.out → Leaves x w.unread → Somewhere now (λ to. Prints (standing_at old (point_of old h)) to x)
  printed old now h x gaps w e told each counted stands wrote left = (
    standing_at now w.final,
    record { point = stands; bounds = refl; refusals = refl },
    (
      gaps,
      reached old now h gaps (lines x.script) w e told each counted,
      wrote ∙ ap (λ (v : Walk). Some (x.told ++ v.out)) e,
      subst (λ (v : Walk). Leaves x v.unread) e left,
    ),
  )

  -- no line is left
  Behind-end : (old now : SessionValue K) (h : Track) (x : Exchange) (all : List (List ℕ)) (b : Behind old now h x.script all) → all ≡ [] → Wrote x b.printed → Leaves x [] → Somewhere now (λ to. Prints (standing_at old (point_of old h)) to x)
  Behind-end old now h x all b none wrote left =
      printed old now h x b.gaps (ended b.printed b.gaps b.point)
      (sym (ap (λ (ls : List (List ℕ)). walk b.gaps (bounds_of room old) ls (point_of old h)) (b.split ∙ ap (λ (ls : List (List ℕ)). b.done ++ ls) none ∙ append-nil b.done) ∙ end-walk old now h x.script all b))
      refl
      (let n = ap length none in omega (arith, b.each, all-lines old now h x.script all b, n))
      b.counted b.stands wrote left

  -- `quit` is the next line
  Behind-quit : (old now new : SessionValue K) (h : Track) (x : Exchange) (line : List ℕ) (all ahead : List (List ℕ)) (b : Behind old now h x.script all) → all ≡ line ∷ ahead → (t : Turn old now new b.point line) → t.e.goes_on ≡ false → Wrote x (b.printed ++ t.e.text) → Leaves x ahead → Somewhere new (λ to. Prints (standing_at old (point_of old h)) to x)
  Behind-quit old now new h x line all ahead b cut t off wrote left =
      printed old new h x (b.gaps ++ t.gap ∷ []) (record { out = b.printed ++ t.e.text; gaps = b.gaps ++ t.gap ∷ []; final = t.e.point; unread = ahead })
      (sym (
      ap (λ (ls : List (List ℕ)). walk (b.gaps ++ t.gap ∷ []) (bounds_of room old) ls (point_of old h)) b.split
      ∙ b.walked (t.gap ∷ []) all
      ∙ ap (λ (ls : List (List ℕ)). ahead_of b.printed b.gaps (walk (t.gap ∷ []) (bounds_of room old) ls b.point)) cut
      ∙ ap (ahead_of b.printed b.gaps) (walk-off t.gap [] (bounds_of room old) line ahead b.point t.e t.is t.told off)
      ))
      refl
      (let c = ap length cut in omega (arith, b.each, all-lines old now h x.script all b, length-push b.gaps t.gap, c))
      (t.counted ∙ ap (refusals_with t.gap) b.counted ∙ sym (refusals-push b.gaps t.gap _))
      t.stands wrote left

  -- the lines behind us were obeyed, and what broke them off
  broken : (why : RunFault) (old now : SessionValue K) (h : Track) (x : Exchange) (ahead : List (List ℕ)) (b : Behind old now h x.script ahead) → Interrupts why x (λ ls. (walk b.gaps (bounds_of room old) ls (point_of old h)).out) b.done ahead → Somewhere now (λ to. BreaksOff why (standing_at old (point_of old h)) to x)
  broken why old now h x ahead b part = (
    standing_at now b.point,
    record { point = b.stands; bounds = refl; refusals = refl },
    record {
      gaps = b.gaps;
      obeyed = b.done;
      ahead = ahead;
      split = b.split;
      on = b.on;
      reaches = reached old now h b.gaps b.done (ended b.printed b.gaps b.point) (sym (end-walk old now h x.script ahead b)) refl (omega (arith, b.each)) b.counted;
      part = part;
    },
  )

  -- a read failed
  Behind-unread : (old now : SessionValue K) (h : Track) (x : Exchange) (taken rest : List ℕ) (ahead : List (List ℕ)) (b : Behind old now h x.script ahead) → x.script ≡ taken ++ rest → line_feeds taken ≡ length b.done → x.left ≡ Some rest → Wrote x b.printed → Somewhere now (λ to. BreaksOff Read (standing_at old (point_of old h)) to x)
  Behind-unread old now h x taken rest ahead b cut feeds left wrote =
      broken Read old now h x ahead b (taken, rest, cut, feeds, left, wrote ∙ ap (λ (w : Walk). Some (x.told ++ w.out)) (sym (end-walk old now h x.script ahead b)))

  -- a write failed
  Behind-unwritten : (old now new : SessionValue K) (h : Track) (x : Exchange) (line front end : List ℕ) (all ahead : List (List ℕ)) (b : Behind old now h x.script all) → all ≡ line ∷ ahead → (t : Turn old now new b.point line) → t.e.goes_on ≡ true → t.e.text ≡ front ++ end → Wrote x (b.printed ++ front) → Leaves x ahead → Somewhere new (λ to. BreaksOff Write (standing_at old (point_of old h)) to x)
  unfolding Behind-step
  Behind-unwritten old now new h x line front end all ahead b cut t on begins wrote left =
      let c = Behind-step old now new h x.script line all ahead b cut t on in
      let whole = end-walk old new h x.script ahead c in
      let before = done-walk old now h x.script all b (t.gap ∷ []) in
      broken Write old new h x ahead c (
        b.done,
        line,
        refl,
        (
          front,
          end,
          ap (λ (w : Walk). w.out) whole
              ∙ ap (λ (v : List ℕ). b.printed ++ v) begins
              ∙ sym (append_assoc b.printed front end)
              ∙ ap (λ (w : Walk). w.out ++ front ++ end) (sym before),
          wrote ∙ ap (λ (w : Walk). Some (x.told ++ (w.out ++ front))) (sym before),
        ),
        left,
      )

module _ {K R W : Type 0} (holds : K → List Kept → Type 0) (refusals room : K → ℕ) (remaining : R → Option (List ℕ)) (contents : W → Option (List ℕ)) where
  -- what was read, written and left in front of a line
  pub record Here (old now : SessionValue K) (reader : Tally R) (writer : Tally W) (h : Track) (script told : List ℕ) : Type 0 where
    pub taken : List ℕ
    pub rest : List ℕ
    pub left : remaining reader.inner ≡ Some rest
    pub cut : script ≡ taken ++ rest
    pub behind : Behind holds refusals room old now h script (lines rest)
    pub feeds : line_feeds taken ≡ length behind.done
    pub written : contents writer.inner ≡ Some (told ++ behind.printed)

  -- what holds in front of each line
  pub record Running (old now : SessionValue K) (reader0 reader : Tally R) (writer0 writer : Tally W) : Type 0 where
    pub read : reader.failures ≡ reader0.failures
    pub wrote : writer.failures ≡ writer0.failures
    pub bounds : bounds_of room now ≡ bounds_of room old
    pub here : (h : Track) (script told : List ℕ) → HasPast holds old h → remaining reader0.inner ≡ Some script → contents writer0.inner ≡ Some told → Here old now reader writer h script told

  -- before the first line
  pub Running-start : (old : SessionValue K) (reader : Tally R) (writer : Tally W) → Running old old reader reader writer writer
  Running-start old reader writer = record {
    read = refl;
    wrote = refl;
    bounds = refl;
    here = λ h script told past left held. record {
      taken = [];
      rest = script;
      left = left;
      cut = refl;
      behind = record {
        done = [];
        gaps = [];
        printed = [];
        point = point_of old h;
        split = refl;
        on = λ k d inside. absurd (omega arith);
        each = refl;
        counted = refl;
        stands = (refl, past);
        walked = λ later more. refl;
      };
      feeds = refl;
      written = held ∙ ap (λ (v : List ℕ). Some v) (sym (append-nil told));
    };
  }

  -- what came in and went out
  abbrev exchange : List ℕ → List ℕ → Tally R → Tally W → Exchange
  exchange script told reader writer = record { script = script; told = told; after = contents writer.inner; left = remaining reader.inner }

  -- what is told of a run, from each standing and from each history
  abbrev pub Tells : (Standing → Standing → Exchange → Type 0) → SessionValue K → SessionValue K → Tally R → Tally R → Tally W → Tally W → Type 0
  Tells P old new reader reader' writer writer' = (from : Standing) (script told : List ℕ) → HasStanding holds refusals room old from → remaining reader.inner ≡ Some script → contents writer.inner ≡ Some told → Somewhere holds refusals room new (λ to. P from to (exchange script told reader' writer'))

  by-history : (P : Standing → Standing → Exchange → Type 0) (old new : SessionValue K) (reader reader' : Tally R) (writer writer' : Tally W) → ((h : Track) (script told : List ℕ) → HasPast holds old h → remaining reader.inner ≡ Some script → contents writer.inner ≡ Some told → Somewhere holds refusals room new (λ to. P (standing_at holds refusals room old (point_of old h)) to (exchange script told reader' writer'))) → Tells P old new reader reader' writer writer'
  by-history P old new reader reader' writer writer' each from script told s left held =
      from-there holds refusals room (λ (f : Standing). Somewhere holds refusals room new (λ to. P f to (exchange script told reader' writer'))) old (λ h past. each h script told past left held) from s

  module _ (old now new : SessionValue K) (reader0 reader reader' : Tally R) (writer0 writer writer' : Tally W) (buffer : Buffer) (i : Running old now reader0 reader writer0 writer) where
    -- what a line did, seen from the point in front of it
    record Deed {F : Type 0} (p : Point) (line : List ℕ) (result : Result Bool F) : Type 0 where
      pub turn : Turn holds refusals room old now new p line
      pub goes_on : IfOk result (λ more. more ≡ turn.e.goes_on)
      pub stays : OnErr result (turn.e.goes_on ≡ true)
      pub writes : Writes contents writer writer' result turn.e.text

    deed-of : {F : Type 0} (p : Point) (line : List ℕ) (result : Result Bool F) → StandsAt holds now p → Holds buffer line → ((h : Track) (text : List ℕ) → HasPast holds now h → Holds buffer text → ObeysLine holds refusals room contents now new writer writer' h text result) → Deed p line result
    deed-of p line result st held obey =
        let o = obey (track_at p) line st.1 held in
        let e = effect o.gap (bounds_of room now) (command_of line) (point_of now (track_at p)) in
        record {
          turn = record {
            gap = o.gap;
            e = e;
            is = sym (ap (λ (b : Bounds). effect o.gap b (command_of line) (point_of now (track_at p))) i.bounds ∙ ap (effect o.gap (bounds_of room old) (command_of line)) st.0);
            told = o.told;
            counted = o.counted;
            stands = o.stands;
          };
          goes_on = o.goes_on;
          stays = o.stays;
          writes = o.written;
        }

    -- the texts of the lines behind us, and one more
    wrote-on : (told printed text : List ℕ) → contents writer.inner ≡ Some (told ++ printed) → Appends (contents writer.inner) (contents writer'.inner) text → contents writer'.inner ≡ Some (told ++ (printed ++ text))
    wrote-on told printed text held more = appended _ _ _ text held more ∙ ap (λ (v : List ℕ). Some v) (append_assoc told printed text)

    -- a read failed
    pub Running-unread : {E : Type 0} (fault : E) → ReadsLine {E = E} remaining reader reader' buffer (Err fault) → Tells (BreaksOff Read) old now reader0 reader' writer0 writer
    Running-unread fault r = by-history (BreaksOff Read) old now reader0 reader' writer0 writer (λ h script told past left held.
        let x = i.here h script told past left held in
        let c = r.part x.rest x.left in
        Behind-unread holds refusals room old now h (exchange script told reader' writer) (x.taken ++ c.taken) c.rest (lines x.rest) x.behind
        (x.cut ∙ ap (λ (v : List ℕ). x.taken ++ v) c.split ∙ sym (append_assoc x.taken c.taken c.rest))
        (feeds-append x.taken c.taken ∙ (let s = x.feeds in let n = c.none in omega arith))
        c.ahead x.written)

    -- no line is left
    pub Running-missing : {E : Type 0} (next : NextLine) → ReadsLine {E = E} remaining reader reader' buffer (Ok next) → is_missing next ≡ true → Tells Prints old now reader0 reader' writer0 writer
    Running-missing Ended r is = absurd cc
    Running-missing Last r is = absurd cc
    Running-missing Missing r is = by-history Prints old now reader0 reader' writer0 writer (λ h script told past left held.
        let x = i.here h script told past left held in
        let c = r.cut x.rest x.left in
        Behind-end holds refusals room old now h (exchange script told reader' writer) (lines x.rest) x.behind (ap lines c.2.0) x.written (c.0, c.1, ap lines c.2.1))

    -- a line that ends the session
    pub Running-quit : {E F : Type 0} (next : NextLine) → ReadsLine {E = E} remaining reader reader' buffer (Ok next) → is_missing next ≡ false → ((h : Track) (text : List ℕ) → HasPast holds now h → Holds buffer text → ObeysLine {E = F} holds refusals room contents now new writer writer' h text (Ok false)) → Tells Prints old new reader0 reader' writer0 writer'
    Running-quit Missing r is obey = absurd cc
    Running-quit Ended r is obey = by-history Prints old new reader0 reader' writer0 writer' (λ h script told past left held.
        let x = i.here h script told past left held in
        let c = r.cut x.rest x.left in
        let d = deed-of x.behind.point c.2.0 (Ok false) x.behind.stands c.2.4 obey in
        Behind-quit holds refusals room old now new h (exchange script told reader' writer') c.2.0 (lines x.rest) (lines c.0) x.behind c.2.3 d.turn (sym d.goes_on) (wrote-on told x.behind.printed d.turn.e.text x.written d.writes.ok) (c.0, c.1, refl))
    Running-quit Last r is obey = by-history Prints old new reader0 reader' writer0 writer' (λ h script told past left held.
        let x = i.here h script told past left held in
        let c = r.cut x.rest x.left in
        let d = deed-of x.behind.point x.rest (Ok false) x.behind.stands c.2.2 obey in
        Behind-quit holds refusals room old now new h (exchange script told reader' writer') x.rest (lines x.rest) [] x.behind c.2.0 d.turn (sym d.goes_on) (wrote-on told x.behind.printed d.turn.e.text x.written d.writes.ok) (c.0, c.1, ap lines c.2.1))

    -- the last line
    pub Running-last : {E F : Type 0} (next : NextLine) → ReadsLine {E = E} remaining reader reader' buffer (Ok next) → is_last next ≡ true → ((h : Track) (text : List ℕ) → HasPast holds now h → Holds buffer text → ObeysLine {E = F} holds refusals room contents now new writer writer' h text (Ok true)) → Tells Prints old new reader0 reader' writer0 writer'
    unfolding Behind-step
    Running-last Missing r is obey = absurd cc
    Running-last Ended r is obey = absurd cc
    Running-last Last r is obey = by-history Prints old new reader0 reader' writer0 writer' (λ h script told past left held.
        let x = i.here h script told past left held in
        let c = r.cut x.rest x.left in
        let d = deed-of x.behind.point x.rest (Ok true) x.behind.stands c.2.2 obey in
        let b = Behind-step holds refusals room old now new h script x.rest (lines x.rest) [] x.behind c.2.0 d.turn (sym d.goes_on) in
        Behind-end holds refusals room old new h (exchange script told reader' writer') [] b refl (wrote-on told x.behind.printed d.turn.e.text x.written d.writes.ok) (c.0, c.1, ap lines c.2.1))

    -- a line after which others may stand
    step-of : (next : NextLine) → is_missing next ≡ false → is_last next ≡ false → next ≡ Ended
    step-of Missing a b = absurd cc
    step-of Last a b = absurd cc
    step-of Ended a b = refl

    here-on : {E F : Type 0} → ReadsLine {E = E} remaining reader reader' buffer (Ok Ended) → ((h : Track) (text : List ℕ) → HasPast holds now h → Holds buffer text → ObeysLine {E = F} holds refusals room contents now new writer writer' h text (Ok true)) → (h : Track) (script told : List ℕ) → HasPast holds old h → remaining reader0.inner ≡ Some script → contents writer0.inner ≡ Some told → Here old new reader' writer' h script told
    unfolding Behind-step
    here-on r obey h script told past left held =
        let x = i.here h script told past left held in
        let c = r.cut x.rest x.left in
        let line = c.2.0 in
        let d = deed-of x.behind.point line (Ok true) x.behind.stands c.2.4 obey in
        let b = Behind-step holds refusals room old now new h script line (lines x.rest) (lines c.0) x.behind c.2.3 d.turn (sym d.goes_on) in
        record {
          taken = x.taken ++ (line ++ 10 ∷ []);
          rest = c.0;
          left = c.1;
          cut = x.cut ∙ ap (λ (v : List ℕ). x.taken ++ v) (c.2.1 ∙ sym (append_assoc line (10 ∷ []) c.0)) ∙ sym (append_assoc x.taken (line ++ 10 ∷ []) c.0);
          behind = b;
          feeds = feeds-line x.taken line (length x.behind.done) x.feeds c.2.2 ∙ sym (length-push x.behind.done line);
          written = wrote-on told x.behind.printed d.turn.e.text x.written d.writes.ok;
        }

    pub Running-step : {E F : Type 0} (next : NextLine) → ReadsLine {E = E} remaining reader reader' buffer (Ok next) → is_missing next ≡ false → is_last next ≡ false → ((h : Track) (text : List ℕ) → HasPast holds now h → Holds buffer text → ObeysLine {E = F} holds refusals room contents now new writer writer' h text (Ok true)) → writer'.failures ≡ writer.failures → bounds_of room new ≡ bounds_of room now → Running old new reader0 reader' writer0 writer'
    Running-step {E = E} next r some more obey wrote bounds = record {
      read = r.same ∙ i.read;
      wrote = wrote ∙ i.wrote;
      bounds = bounds ∙ i.bounds;
      here = here-on (subst (λ (n : NextLine). ReadsLine {E = E} remaining reader reader' buffer (Ok n)) (step-of next some more) r) obey;
    }

    -- a write failed
    pub Running-unwritten : {E F : Type 0} (next : NextLine) (fault : F) → ReadsLine {E = E} remaining reader reader' buffer (Ok next) → is_missing next ≡ false → ((h : Track) (text : List ℕ) → HasPast holds now h → Holds buffer text → ObeysLine holds refusals room contents now new writer writer' h text (Err fault)) → Tells (BreaksOff Write) old new reader0 reader' writer0 writer'
    Running-unwritten Missing fault r is obey = absurd cc
    Running-unwritten Ended fault r is obey = by-history (BreaksOff Write) old new reader0 reader' writer0 writer' (λ h script told past left held.
        let x = i.here h script told past left held in
        let c = r.cut x.rest x.left in
        let d = deed-of x.behind.point c.2.0 (Err fault) x.behind.stands c.2.4 obey in
        let w = d.writes.err in
        Behind-unwritten holds refusals room old now new h (exchange script told reader' writer') c.2.0 w.0 w.1 (lines x.rest) (lines c.0) x.behind c.2.3 d.turn d.stays w.2 (wrote-on told x.behind.printed w.0 x.written w.3) (c.0, c.1, refl))
    Running-unwritten Last fault r is obey = by-history (BreaksOff Write) old new reader0 reader' writer0 writer' (λ h script told past left held.
        let x = i.here h script told past left held in
        let c = r.cut x.rest x.left in
        let d = deed-of x.behind.point x.rest (Err fault) x.behind.stands c.2.2 obey in
        let w = d.writes.err in
        Behind-unwritten holds refusals room old now new h (exchange script told reader' writer') x.rest w.0 w.1 (lines x.rest) [] x.behind c.2.0 d.turn d.stays w.2 (wrote-on told x.behind.printed w.0 x.written w.3) (c.0, c.1, ap lines c.2.1))
