-- What an answer means: by the laws of one move, back through a history.
use Rattle.std.proofs.Common.{◌≡◌, ◌≢◌, ◌≤◌, ◌<◌, ◌⊎◌, ℕ, zero, suc, ◌+◌, ◌-◌, List, [], ◌∷◌, ◌++◌, length, flat_map, filter, not, Bool, true, false, Option, Some, None, refl, sym, ap, subst, ◌∙◌, inl, inr, arith}
use Rattle.std.specs.Prelude.{◌==◌, ◌&&◌, ◌||◌, nat_lt, if◌then◌else◌}
use Rattle.std.specs.Option.{option_map_or}
use Rattle.std.proofs.lemmas.Bool.{cases_lt, and_parts}
use Rattle.std.proofs.lemmas.Bool.Decides.{nat_tests}
use Rattle.std.proofs.lemmas.Grind.{flat_map-append}
use Rattle.std.proofs.lemmas.List.Folds.{list_any-append}
use Rattle.std.proofs.Math.Bool.{or-true}
use Rattle.bpf_isa.specs.Helpers.{helper_of}
use Rattle.bpf_isa.specs.declared.helpers.Helper.{Helper}
use Rattle.bpf_isa.specs.declared.helpers.Helper.TheVariants as named
use Rattle.bpf_isa.specs.Programs.{insn_at}
use Rattle.bpf_isa.specs.Sizes.{size_len}
use Rattle.bpf_isa.specs.declared.instruction.AtomicOp.{AtomicOp}
use Rattle.bpf_isa.specs.declared.instruction.AtomicOp.TheVariants as atomics
use Rattle.bpf_isa.specs.declared.instruction.BinaryOp.{BinaryOp}
use Rattle.bpf_isa.specs.declared.instruction.BinaryOp.TheVariants as binaries
use Rattle.bpf_isa.specs.declared.instruction.Insn.{Insn}
use Rattle.bpf_isa.specs.declared.instruction.Insn.TheVariants as insn
use Rattle.bpf_isa.specs.declared.instruction.Source.{Source}
use Rattle.bpf_isa.specs.declared.instruction.Source.TheVariants as source
use Rattle.bpf_entries.specs.Past.{Frames, Same, Fewer, More, past}
use Rattle.bpf_journal.specs.Histories.{Record}
use Rattle.bpf_steps.specs.declared.change.Change.{Change}
use Rattle.bpf_steps.specs.declared.change.Change.TheVariants.{Cell}
use Rattle.bpf_machine.specs.declared.edit.Edit.{Edit}
use Rattle.bpf_machine.specs.declared.edit.Edit.TheVariants as edit
use Rattle.bpf_machine.specs.declared.moves.Move.{Move}
use Rattle.bpf_machine.specs.declared.moves.Move.TheVariants as move
use Rattle.bpf_steps.specs.Access.{address}
use Rattle.bpf_steps.specs.Atomics.{size_of}
use Rattle.bpf_machine.specs.Edits.{edited, edit_entry}
use Rattle.bpf_machine.specs.Moves.{Leads, moved, overwritten}
use Rattle.bpf_steps.specs.Next.{change}
use Rattle.bpf_steps.specs.State.{State, depth, register}
use Rattle.bpf_machine.specs.StepLaws.{MovesFrames}
use Rattle.bpf_machine.proofs.StepLaws.{law_rest}
use Rattle.bpf_machine.proofs.Undoing.{pushed_depth}
use Rattle.std.proofs.Common.{length-append}
use Rattle.bpf_origin.specs.declared.place.Place.{Place}
use Rattle.bpf_origin.specs.declared.place.Place.TheVariants.{Register, Word, Byte}
use Rattle.bpf_origin.specs.declared.place.Part.{Part}
use Rattle.bpf_origin.specs.declared.place.Part.TheVariants as part
use Rattle.bpf_origin.specs.Laws.{StandAlike, Agree, AgreeOn}
use Rattle.bpf_origin.specs.Meaning.{passed, left_of, GoAlike, ArePlaces, LeftIsAll}
use Rattle.bpf_origin.specs.Places.{depth_for, value, IsPlace, same, bytes_from, places_of}
use Rattle.bpf_origin.specs.Reads.{of_register, of_source, of_first, of_compared, of_key, of_value, of_helper, helper_bases, reads_by, bases_by, reads, bases, followed}
use Rattle.bpf_origin.specs.Wanted.{is_in, want, want_all, is_among, are_hit, spared, handed, carried, still_wanted}
use Rattle.bpf_origin.specs.Writes.{written, writes, inherited, came_from}
use Rattle.bpf_origin.proofs.Agreeing.{in_first, in_second, eq_self, same_self, same_depth}
use Rattle.bpf_origin.proofs.Alike.{law_writes}
use Rattle.bpf_origin.proofs.Keeping.{law_places}

-- Tests.
either : (b c : Bool) → (b || c) ≡ true → (b ≡ true) ⊎ (c ≡ true)
either true c e = inl refl
either false c e = inr e

both : {b : Bool} → b ≡ true → b ≡ false → ⊥
both e f = cc

cases_bool : (b : Bool) → (b ≡ true) ⊎ (b ≡ false)
cases_bool true = inl refl
cases_bool false = inr refl

not_false : (b : Bool) → not b ≡ true → b ≡ false
not_false true e = cc
not_false false e = refl

eq_is : (m n : ℕ) → (m == n) ≡ true → m ≡ n
eq_is m n e = grind (arith, nat_tests)

eq_not : (m n : ℕ) → m ≢ n → (m == n) ≡ false
eq_not m n e = grind (arith, nat_tests)

same_is : (p q : Place) → same p q ≡ true → p ≡ q
same_is (Register d r) (Register e s) h =
    let two = and_parts (d == e) (r == s) h in
    ap (λ k. Register k r) (eq_is d e two.0) ∙ ap (Register e) (eq_is r s two.1)
same_is (Word i) (Word j) h = ap Word (eq_is i j h)
same_is (Byte a) (Byte b) h = ap Byte (eq_is a b h)
same_is (Register d r) (Word j) h = cc
same_is (Register d r) (Byte b) h = cc
same_is (Word i) (Register e s) h = cc
same_is (Word i) (Byte b) h = cc
same_is (Byte a) (Register e s) h = cc
same_is (Byte a) (Word j) h = cc

-- What is in a list of places.
pub in_either : (p : Place) (xs ys : List Place) → is_in p (xs ++ ys) ≡ true → (is_in p xs ≡ true) ⊎ (is_in p ys ≡ true)
in_either p xs ys e = either (is_in p xs) (is_in p ys) (sym (list_any-append (same p) xs ys) ∙ e)

in_one : (p : Place) → is_in p (p ∷ []) ≡ true
in_one p = ap (λ (b : Bool). b || false) (same_self p)

is_one : (p q : Place) → is_in p (q ∷ []) ≡ true → p ≡ q
is_one p q e = elim (either (same p q) false e) [ inl h ↦ same_is p q h | inr h ↦ absurd (both h refl) ]

in_filter : (t : Place → Bool) (p : Place) (ws : List Place) → is_in p (filter t ws) ≡ true → (is_in p ws ≡ true) × (t p ≡ true)
in_filter t p [] e = cc
in_filter t p (w ∷ ws) e = by_test (t w) refl e (in_filter t p ws)
  where
    by_test : (b : Bool) → t w ≡ b → is_in p (if b then w ∷ filter t ws else filter t ws) ≡ true → (is_in p (filter t ws) ≡ true → (is_in p ws ≡ true) × (t p ≡ true)) → (is_in p (w ∷ ws) ≡ true) × (t p ≡ true)
    by_test true h e rest = elim (either (same p w) (is_in p (filter t ws)) e) [
      | inl here ↦ (ap (λ (b : Bool). b || is_in p ws) here, ap t (same_is p w here) ∙ h)
      | inr later ↦ let r = rest later in (ap (λ (b : Bool). same p w || b) r.0 ∙ or-true (same p w), r.1)
    ]
    by_test false h e rest = let r = rest e in (ap (λ (b : Bool). same p w || b) r.0 ∙ or-true (same p w), r.1)

filter_has : (t : Place → Bool) (p : Place) (ws : List Place) → is_in p ws ≡ true → t p ≡ true → is_in p (filter t ws) ≡ true
filter_has t p [] e h = cc
filter_has t p (w ∷ ws) e h = by_test (t w) refl (λ later. filter_has t p ws later h)
  where
    by_test : (b : Bool) → t w ≡ b → (is_in p ws ≡ true → is_in p (filter t ws) ≡ true) → is_in p (if b then w ∷ filter t ws else filter t ws) ≡ true
    by_test true g rest = elim (either (same p w) (is_in p ws) e) [
      | inl here ↦ ap (λ (b : Bool). b || is_in p (filter t ws)) here
      | inr later ↦ ap (λ (b : Bool). same p w || b) (rest later) ∙ or-true (same p w)
    ]
    by_test false g rest = elim (either (same p w) (is_in p ws) e) [
      | inl here ↦ absurd (both (sym (ap t (same_is p w here)) ∙ h) g)
      | inr later ↦ rest later
    ]

-- More wanted places.
want_has : (ws : List Place) (q p : Place) → is_in p ws ≡ true → is_in p (want ws q) ≡ true
want_has ws q p e = by_test (is_in q ws)
  where
    by_test : (b : Bool) → is_in p (if b then ws else ws ++ q ∷ []) ≡ true
    by_test true = e
    by_test false = in_first p ws (q ∷ []) e

want_has_it : (ws : List Place) (q : Place) → is_in q (want ws q) ≡ true
want_has_it ws q = by_test (is_in q ws) refl
  where
    by_test : (b : Bool) → is_in q ws ≡ b → is_in q (if b then ws else ws ++ q ∷ []) ≡ true
    by_test true e = e
    by_test false e = in_second q ws (q ∷ []) (in_one q)

in_want : (ws : List Place) (q p : Place) → is_in p (want ws q) ≡ true → (is_in p ws ≡ true) ⊎ (p ≡ q)
in_want ws q p e = by_test (is_in q ws) e
  where
    by_test : (b : Bool) → is_in p (if b then ws else ws ++ q ∷ []) ≡ true → (is_in p ws ≡ true) ⊎ (p ≡ q)
    by_test true e = inl e
    by_test false e = elim (in_either p ws (q ∷ []) e) [ inl h ↦ inl h | inr h ↦ inr (is_one p q h) ]

want_all_has : (ws ps : List Place) (p : Place) → is_in p ws ≡ true → is_in p (want_all ws ps) ≡ true
unfolding want_all
want_all_has ws [] p e = e
want_all_has ws (q ∷ ps) p e = want_all_has (want ws q) ps p (want_has ws q p e)

want_all_has_it : (ws ps : List Place) (p : Place) → is_in p ps ≡ true → is_in p (want_all ws ps) ≡ true
unfolding want_all
want_all_has_it ws [] p e = cc
want_all_has_it ws (q ∷ ps) p e = elim (either (same p q) (is_in p ps) e) [
  | inl here ↦ want_all_has (want ws q) ps p (ap (λ r. is_in r (want ws q)) (same_is p q here) ∙ want_has_it ws q)
  | inr later ↦ want_all_has_it (want ws q) ps p later
]

in_want_all : (ws ps : List Place) (p : Place) → is_in p (want_all ws ps) ≡ true → (is_in p ws ≡ true) ⊎ (is_in p ps ≡ true)
unfolding want_all
in_want_all ws [] p e = inl e
in_want_all ws (q ∷ ps) p e = elim (in_want_all (want ws q) ps p e) [
  | inl h ↦ elim (in_want ws q p h) [
    | inl there ↦ inl there
    | inr is ↦ inr (ap (λ (b : Bool). b || is_in p ps) (ap (same p) (sym is) ∙ same_self p))
  ]
  | inr h ↦ inr (ap (λ (b : Bool). same p q || b) h ∙ or-true (same p q))
]

-- A wanted place that was written is hit.
hit_by : (parts : List Part) (ws : List Place) (p : Place) → is_in p ws ≡ true → is_among parts p ≡ true → are_hit parts ws ≡ true
hit_by parts [] p e h = cc
hit_by parts (w ∷ ws) p e h = elim (either (same p w) (is_in p ws) e) [
  | inl here ↦ ap (λ (b : Bool). b || are_hit parts ws) (sym (ap (is_among parts) (same_is p w here)) ∙ h)
  | inr later ↦ ap (λ (b : Bool). is_among parts w || b) (hit_by parts ws p later h) ∙ or-true (is_among parts w)
]

-- Before a call: r6 to r9 of the function that it begins are the caller's.
abbrev handed_to : ℕ → ℕ → Place → Place
handed_to d r p = if same (Register d r) p then Register (d - 1) r else p

handed_has : (d r : ℕ) (ws : List Place) (p : Place) → is_in p ws ≡ true → is_in (handed_to d r p) (handed d r ws) ≡ true
handed_has d r ws p e = by_test (is_in (Register d r) ws) refl (same (Register d r) p) refl
  where
    by_test : (b : Bool) → is_in (Register d r) ws ≡ b → (c : Bool) → same (Register d r) p ≡ c → is_in (if c then Register (d - 1) r else p) (if b then want (filter (λ q. not (same (Register d r) q)) ws) (Register (d - 1) r) else ws) ≡ true
    by_test true there true at = want_has_it (filter (λ q. not (same (Register d r) q)) ws) (Register (d - 1) r)
    by_test true there false at =
        want_has (filter (λ q. not (same (Register d r) q)) ws) (Register (d - 1) r) p (filter_has (λ q. not (same (Register d r) q)) p ws e (ap not at))
    by_test false there true at = absurd (both (ap (λ q. is_in q ws) (same_is (Register d r) p at) ∙ e) there)
    by_test false there false at = e

in_handed : (d r : ℕ) (ws : List Place) (p : Place) → is_in p (handed d r ws) ≡ true → ((is_in p ws ≡ true) × (same (Register d r) p ≡ false)) ⊎ ((p ≡ Register (d - 1) r) × (is_in (Register d r) ws ≡ true))
in_handed d r ws p e = by_test (is_in (Register d r) ws) refl e
  where
    by_test : (b : Bool) → is_in (Register d r) ws ≡ b → is_in p (if b then want (filter (λ q. not (same (Register d r) q)) ws) (Register (d - 1) r) else ws) ≡ true → ((is_in p ws ≡ true) × (same (Register d r) p ≡ false)) ⊎ ((p ≡ Register (d - 1) r) × (is_in (Register d r) ws ≡ true))
    by_test true there e = elim (in_want (filter (λ q. not (same (Register d r) q)) ws) (Register (d - 1) r) p e) [
      | inl kept ↦ let two = in_filter (λ q. not (same (Register d r) q)) p ws kept in inl (two.0, not_false (same (Register d r) p) two.1)
      | inr is ↦ inr (is, there)
    ]
    by_test false there e = elim (cases_bool (same (Register d r) p)) [
      | inl at ↦ absurd (both (ap (λ q. is_in q ws) (same_is (Register d r) p at) ∙ e) there)
      | inr apart ↦ inl (e, apart)
    ]

-- One place through the four.
hand_hit : (d r : ℕ) → handed_to d r (Register d r) ≡ Register (d - 1) r
hand_hit d r = ap (λ (b : Bool). if b then Register (d - 1) r else Register d r) (same_self (Register d r))

hand_other : (d k e r : ℕ) → (k == r) ≡ false → handed_to d k (Register e r) ≡ Register e r
hand_other d k e r apart = by_test (d == e)
  where
    by_test : (b : Bool) → (if (b && (k == r)) then Register (d - 1) k else Register e r) ≡ Register e r
    by_test true = ap (λ (c : Bool). if c then Register (d - 1) k else Register e r) apart
    by_test false = refl

hand_apart : (d k e r : ℕ) → (d == e) ≡ false → handed_to d k (Register e r) ≡ Register e r
hand_apart d k e r apart = ap (λ (b : Bool). if (b && (k == r)) then Register (d - 1) k else Register e r) apart

abbrev handed_four : ℕ → Place → Place
handed_four d p = handed_to d 9 (handed_to d 8 (handed_to d 7 (handed_to d 6 p)))

four_here : (d r : ℕ) → 6 ≤ r → r < 10 → handed_four d (Register d r) ≡ Register (d - 1) r
four_here d r from low =
    let at : (k : ℕ) → r ≡ k → handed_four d (Register d k) ≡ Register (d - 1) k → handed_four d (Register d r) ≡ Register (d - 1) r = λ k e same. subst (λ n. handed_four d (Register d n) ≡ Register (d - 1) n) (sym e) same in
    elim (cases_lt r 7) [
      | inl a ↦ at 6 (omega (arith, from, a))
          (ap (λ p. handed_to d 9 (handed_to d 8 (handed_to d 7 p))) (hand_hit d 6)
          ∙ ap (λ p. handed_to d 9 (handed_to d 8 p)) (hand_other d 7 (d - 1) 6 refl)
          ∙ ap (handed_to d 9) (hand_other d 8 (d - 1) 6 refl)
          ∙ hand_other d 9 (d - 1) 6 refl)
      | inr b ↦ elim (cases_lt r 8) [
        | inl a ↦ at 7 (omega (arith, b, a))
            (ap (λ p. handed_to d 9 (handed_to d 8 (handed_to d 7 p))) (hand_other d 6 d 7 refl)
            ∙ ap (λ p. handed_to d 9 (handed_to d 8 p)) (hand_hit d 7)
            ∙ ap (handed_to d 9) (hand_other d 8 (d - 1) 7 refl)
            ∙ hand_other d 9 (d - 1) 7 refl)
        | inr c ↦ elim (cases_lt r 9) [
          | inl a ↦ at 8 (omega (arith, c, a))
              (ap (λ p. handed_to d 9 (handed_to d 8 (handed_to d 7 p))) (hand_other d 6 d 8 refl)
              ∙ ap (λ p. handed_to d 9 (handed_to d 8 p)) (hand_other d 7 d 8 refl)
              ∙ ap (handed_to d 9) (hand_hit d 8)
              ∙ hand_other d 9 (d - 1) 8 refl)
          | inr f ↦ at 9 (omega (arith, f, low))
              (ap (λ p. handed_to d 9 (handed_to d 8 (handed_to d 7 p))) (hand_other d 6 d 9 refl)
              ∙ ap (λ p. handed_to d 9 (handed_to d 8 p)) (hand_other d 7 d 9 refl)
              ∙ ap (handed_to d 9) (hand_other d 8 d 9 refl)
              ∙ hand_hit d 9)
        ]
      ]
    ]

four_apart : (d e r : ℕ) → (d == e) ≡ false → handed_four d (Register e r) ≡ Register e r
four_apart d e r apart =
    ap (λ p. handed_to d 9 (handed_to d 8 (handed_to d 7 p))) (hand_apart d 6 e r apart)
    ∙ ap (λ p. handed_to d 9 (handed_to d 8 p)) (hand_apart d 7 e r apart)
    ∙ ap (handed_to d 9) (hand_apart d 8 e r apart)
    ∙ hand_apart d 9 e r apart

-- A place of a state of depth d, where d is not 0: at that depth it is one of r6 to r9.
own_at : (d e r : ℕ) → 1 ≤ d → e ≤ depth_for d r → e ≡ d → 6 ≤ r
own_at d e r some within at = by_six (nat_lt r 6) refl within
  where
    by_six : (b : Bool) → nat_lt r 6 ≡ b → e ≤ (if b then 0 else d) → 6 ≤ r
    by_six true f within = absurd (omega (arith, some, within, at))
    by_six false f within = grind (arith, nat_tests)

four_inherited : (y : State) (p : Place) → 1 ≤ depth y → IsPlace y p → handed_four (depth y) p ≡ inherited Fewer (depth y) p
four_inherited y (Word i) some is = refl
four_inherited y (Byte a) some is = refl
four_inherited y (Register e r) some is = by_depth (e == depth y) refl
  where
    by_depth : (b : Bool) → (e == depth y) ≡ b → handed_four (depth y) (Register e r) ≡ (if b then Register (depth y - 1) r else Register e r)
    by_depth true f =
        let at : e ≡ depth y = eq_is e (depth y) f in
        ap (λ k. handed_four (depth y) (Register k r)) at ∙ four_here (depth y) r (own_at (depth y) e r some is.1 at) is.0
    by_depth false f = four_apart (depth y) e r (eq_not (depth y) e (λ g. both (ap (λ k. k == depth y) (sym g) ∙ eq_self (depth y)) f))

carried_has : (f : Frames) (y : State) (ws : List Place) (p : Place) → (f ≡ Fewer → 1 ≤ depth y) → IsPlace y p → is_in p ws ≡ true → is_in (inherited f (depth y) p) (carried f (depth y) ws) ≡ true
carried_has Same y ws p some is e = e
carried_has (More saved) y ws p some is e = e
carried_has Fewer y ws p some is e =
    ap (λ q. is_in q (carried Fewer (depth y) ws)) (sym (four_inherited y p (some refl) is))
    ∙ handed_has (depth y) 9 (handed (depth y) 8 (handed (depth y) 7 (handed (depth y) 6 ws))) (handed_to (depth y) 8 (handed_to (depth y) 7 (handed_to (depth y) 6 p)))
    (handed_has (depth y) 8 (handed (depth y) 7 (handed (depth y) 6 ws)) (handed_to (depth y) 7 (handed_to (depth y) 6 p))
    (handed_has (depth y) 7 (handed (depth y) 6 ws) (handed_to (depth y) 6 p) (handed_has (depth y) 6 ws p e)))

-- What becomes of the depth.
edit_frames : (x : State) (e : Edit) → MovesFrames x (past (depth (edited x e)) (edit_entry x e)).frames (edited x e)
unfolding edited edit_entry
edit_frames x (edit.Register s v) = refl
edit_frames x (edit.Bytes a bytes) = refl
edit_frames x (edit.Cell table index bytes) = refl
edit_frames x (edit.Pc slot) = refl

moves_frames : (x : State) (m : Move) (y : State) → Leads x m y → MovesFrames x (past (depth y) (overwritten x m)).frames y
moves_frames x move.Step y leads =
    subst (λ (t : State). MovesFrames x (past (depth t) (overwritten x move.Step)).frames t) (sym leads.after) (law_rest x leads.before leads.movable).1
moves_frames x (move.Edit e) y leads =
    subst (λ (t : State). MovesFrames x (past (depth t) (edit_entry x e)).frames t) (sym leads.after) (edit_frames x e)

abbrev Deepens : Frames → ℕ → ℕ → Type 0
Deepens Same d e = e ≡ d
Deepens Fewer d e = e ≡ d + 1
Deepens (More saved) d e = d ≡ e + 1

deepens : (f : Frames) (x y : State) → MovesFrames x f y → Deepens f (depth x) (depth y)
deepens Same x y moves = ap length moves
deepens Fewer x y moves = ap length moves ∙ pushed_depth x (x.pc + 1)
deepens (More saved) x y moves = ap length moves.1 ∙ length-append y.frames (moves.0 ∷ [])

inherited_same : (f g : Frames) (d e c b : ℕ) (p : Place) → Deepens f d e → Deepens g c b → d ≡ c → e ≡ b → inherited f e p ≡ inherited g b p
inherited_same Same Same d e c b p f g h i = refl
inherited_same Same (More saved) d e c b p f g h i = refl
inherited_same (More saved) Same d e c b p f g h i = refl
inherited_same (More saved) (More other) d e c b p f g h i = refl
inherited_same Fewer Fewer d e c b p f g h i = ap (λ k. inherited Fewer k p) i
inherited_same Same Fewer d e c b p f g h i = absurd (omega (arith, f, g, h, i))
inherited_same Fewer Same d e c b p f g h i = absurd (omega (arith, f, g, h, i))
inherited_same (More saved) Fewer d e c b p f g h i = absurd (omega (arith, f, g, h, i))
inherited_same Fewer (More saved) d e c b p f g h i = absurd (omega (arith, f, g, h, i))

-- What a move reads are places of the state before it.
abbrev PartsIn : State → List Part → Type 0
PartsIn x [] = Unit {0}
PartsIn x (part.Register d r ∷ qs) = IsPlace x (Register d r) × PartsIn x qs
PartsIn x (part.Word i ∷ qs) = PartsIn x qs
PartsIn x (part.Bytes a n ∷ qs) = PartsIn x qs

parts_more : (x : State) (ps qs : List Part) → PartsIn x ps → PartsIn x qs → PartsIn x (ps ++ qs)
parts_more x [] qs a b = b
parts_more x (part.Register d r ∷ ps) qs a b = (a.0, parts_more x ps qs a.1 b)
parts_more x (part.Word i ∷ ps) qs a b = parts_more x ps qs a b
parts_more x (part.Bytes at n ∷ ps) qs a b = parts_more x ps qs a b

bytes_in : (x : State) (p : Place) (a n : ℕ) → is_in p (bytes_from a n) ≡ true → IsPlace x p
unfolding bytes_from
bytes_in x p a zero e = cc
bytes_in x (Register d r) a (suc n) e = bytes_in x (Register d r) (suc a) n e
bytes_in x (Word i) a (suc n) e = tt
bytes_in x (Byte b) a (suc n) e = tt

one_in : (x : State) (p q : Place) → IsPlace x q → is_in p (q ∷ []) ≡ true → IsPlace x p
one_in x p q is e = subst (IsPlace x) (sym (is_one p q e)) is

parts_in : (x : State) (qs : List Part) → PartsIn x qs → ArePlaces x (flat_map places_of qs)
parts_in x [] all p e = cc
parts_in x (part.Register d r ∷ qs) all p e = elim (in_either p (Register d r ∷ []) (flat_map places_of qs) e) [
  | inl here ↦ one_in x p (Register d r) all.0 here
  | inr later ↦ parts_in x qs all.1 p later
]
parts_in x (part.Word i ∷ qs) all p e = elim (in_either p (Word i ∷ []) (flat_map places_of qs) e) [
  | inl here ↦ one_in x p (Word i) tt here
  | inr later ↦ parts_in x qs all p later
]
parts_in x (part.Bytes a n ∷ qs) all p e = elim (in_either p (bytes_from a n) (flat_map places_of qs) e) [
  | inl here ↦ bytes_in x p a n here
  | inr later ↦ parts_in x qs all p later
]

register_in : (x : State) (r : ℕ) → PartsIn x (of_register x r)
register_in x r = by_ten (nat_lt r 10) refl
  where
    by_ten : (b : Bool) → nat_lt r 10 ≡ b → PartsIn x (if b then part.Register (depth_for (depth x) r) r ∷ [] else [])
    by_ten true e = let low : r < 10 = grind (arith, nat_tests) in ((low, omega arith), tt)
    by_ten false e = tt

source_in : (x : State) (s : Source) → PartsIn x (of_source x s)
source_in x (source.Immediate imm) = tt
source_in x (source.Register r) = register_in x r

first_in : (x : State) (op : BinaryOp) (dst : ℕ) → PartsIn x (of_first x op dst)
first_in x binaries.Mov dst = tt
first_in x op dst = register_in x dst

compared_in : (x : State) (op : AtomicOp) → PartsIn x (of_compared x op)
compared_in x atomics.CompareExchange = register_in x 0
compared_in x op = tt

key_in : (x : State) → PartsIn x (of_key x)
key_in x = parts_more x (of_register x 1) (part.Bytes (register x 2) 4 ∷ []) (register_in x 1) tt

value_in : (x : State) (c : Change) → PartsIn x (of_value x c)
value_in x (Cell a from n after) = tt
value_in x _ = tt

helper_in : (x : State) (o : Option Helper) (c : Change) → PartsIn x (option_map_or (of_helper x c) o [])
helper_in x None c = tt
helper_in x (Some named.Lookup) c = key_in x
helper_in x (Some named.Update) c = parts_more x (of_key x) (of_register x 4 ++ of_value x c) (key_in x) (parts_more x (of_register x 4) (of_value x c) (register_in x 4) (value_in x c))
helper_in x (Some named.Trace) c = register_in x 1

reads_in_by : (x : State) (i : Insn) → PartsIn x (reads_by x i)
reads_in_by x (insn.Binary op width dst s) = parts_more x (of_first x op dst) (of_source x s) (first_in x op dst) (source_in x s)
reads_in_by x (insn.Negate width dst) = register_in x dst
reads_in_by x (insn.SignExtend extension dst src) = register_in x src
reads_in_by x (insn.SwapBytes order width dst) = register_in x dst
reads_in_by x (insn.CallHelper number) = helper_in x (helper_of number) (change x)
reads_in_by x (insn.Load size dst from) = tt
reads_in_by x (insn.Store size to s) = source_in x s
reads_in_by x (insn.Atomic op width to src) =
    parts_more x (of_compared x op) (of_register x src ++ part.Bytes (address x to) (size_len (size_of width)) ∷ []) (compared_in x op)
    (parts_more x (of_register x src) (part.Bytes (address x to) (size_len (size_of width)) ∷ []) (register_in x src) tt)
reads_in_by x _ = tt

pointers_in : (x : State) (o : Option Helper) → PartsIn x (option_map_or (helper_bases x) o [])
pointers_in x None = tt
pointers_in x (Some named.Lookup) = register_in x 2
pointers_in x (Some named.Update) = parts_more x (of_register x 2) (of_register x 3) (register_in x 2) (register_in x 3)
pointers_in x (Some named.Trace) = tt

bases_in_by : (x : State) (i : Insn) → PartsIn x (bases_by x i)
bases_in_by x (insn.CallHelper number) = pointers_in x (helper_of number)
bases_in_by x (insn.Load size dst from) = register_in x from.base
bases_in_by x (insn.Store size to s) = register_in x to.base
bases_in_by x (insn.Atomic op width to src) = register_in x to.base
bases_in_by x _ = tt

table_in : (x : State) (table : State → Insn → List Part) (found : Option Insn) → ((i : Insn) → PartsIn x (table x i)) → PartsIn x (option_map_or (table x) found [])
table_in x table None each = tt
table_in x table (Some i) each = each i

reads_in : (x : State) (m : Move) → PartsIn x (reads x m)
reads_in x move.Step = table_in x reads_by (insn_at x.program x.pc) (reads_in_by x)
reads_in x (move.Edit e) = tt

bases_in : (x : State) (m : Move) → PartsIn x (bases x m)
bases_in x move.Step = table_in x bases_by (insn_at x.program x.pc) (bases_in_by x)
bases_in x (move.Edit e) = tt

followed_in : (x : State) (m : Move) (addresses : Bool) → PartsIn x (followed addresses x m)
followed_in x m true = parts_more x (reads x m) (bases x m) (reads_in x m) (bases_in x m)
followed_in x m false = parts_more x (reads x m) [] (reads_in x m) tt

-- What is still wanted are places of the state before the move.
depth_more : (d e r : ℕ) → d ≤ e → depth_for d r ≤ depth_for e r
depth_more d e r low = by_six (nat_lt r 6)
  where
    by_six : (b : Bool) → (if b then 0 else d) ≤ (if b then 0 else e)
    by_six true = omega arith
    by_six false = low

place_moves : (x y : State) (p : Place) → depth y ≤ depth x → IsPlace y p → IsPlace x p
place_moves x y (Register e r) low is = (is.0, omega (arith, is.1, depth_more (depth y) (depth x) r low))
place_moves x y (Word i) low is = tt
place_moves x y (Byte a) low is = tt

-- A place of y that is none of the registers from r6 to that before rk at its depth.
abbrev Below : State → ℕ → Place → Type 0
Below y k p = IsPlace y p × ((r : ℕ) → 6 ≤ r → r < k → same (Register (depth y) r) p ≡ false)

below_more : (y : State) (k : ℕ) (ws : List Place) → 1 ≤ depth y → k < 10 → ((p : Place) → is_in p ws ≡ true → Below y k p) → (p : Place) → is_in p (handed (depth y) k ws) ≡ true → Below y (k + 1) p
below_more y k ws some low all p e = elim (in_handed (depth y) k ws p e) [
  | inl kept ↦
      let was = all p kept.0 in (
        was.0,
        λ r from to. elim (cases_lt r k) [
          | inl below ↦ was.1 r from below
          | inr above ↦ let at : r ≡ k = omega (arith, above, to) in ap (λ n. same (Register (depth y) n) p) at ∙ kept.1
        ],
      )
  | inr moved ↦
      let was = all (Register (depth y) k) moved.1 in
      let within : depth y ≤ depth_for (depth y) k = was.0.1 in
      subst (Below y (k + 1)) (sym moved.0)
      ((low, omega (arith, within)), λ r from to. ap (λ (b : Bool). b && (r == k)) (eq_not (depth y) (depth y - 1) (omega (arith, some))))
]

below_is : (x y : State) (p : Place) → depth y ≡ depth x + 1 → Below y 10 p → IsPlace x p
below_is x y (Word i) deep below = tt
below_is x y (Byte a) deep below = tt
below_is x y (Register e r) deep below = (below.0.0, by_six (nat_lt r 6) refl below.0.1)
  where
    by_six : (b : Bool) → nat_lt r 6 ≡ b → e ≤ (if b then 0 else depth y) → e ≤ (if b then 0 else depth x)
    by_six true f within = within
    by_six false f within =
        let from : 6 ≤ r = grind (arith, nat_tests) in
        let off : same (Register (depth y) r) (Register e r) ≡ false = below.1 r from below.0.0 in
        let apart : e ≢ depth y = λ g. both (ap (λ (b : Bool). b && (r == r)) (ap (λ k. depth y == k) g ∙ eq_self (depth y)) ∙ eq_self r) off in
        omega (arith, within, deep, apart)

carried_in : (f : Frames) (x y : State) (ws : List Place) → Deepens f (depth x) (depth y) → ArePlaces y ws → ArePlaces x (carried f (depth y) ws)
carried_in Same x y ws deep all p e = place_moves x y p (omega (arith, deep)) (all p e)
carried_in (More saved) x y ws deep all p e = place_moves x y p (omega (arith, deep)) (all p e)
carried_in Fewer x y ws deep all p e =
    let some : 1 ≤ depth y = omega (arith, deep) in
    below_is x y p deep
    (below_more y 9 (handed (depth y) 8 (handed (depth y) 7 (handed (depth y) 6 ws))) some (omega arith)
    (below_more y 8 (handed (depth y) 7 (handed (depth y) 6 ws)) some (omega arith)
    (below_more y 7 (handed (depth y) 6 ws) some (omega arith)
    (below_more y 6 ws some (omega arith) (λ q there. (all q there, λ r from to. absurd (omega (arith, from, to)))))))
    p e)

-- One move back.
module _ (addresses : Bool) (x z : State) (m : Move) (y w : State) (left : Leads x m y) (right : Leads z m w) (first : StandAlike x z) (last : StandAlike y w) (places : written y (overwritten x m) ≡ written w (overwritten z m)) where
  deep_x : Deepens (past (depth y) (overwritten x m)).frames (depth x) (depth y)
  deep_x = deepens (past (depth y) (overwritten x m)).frames x y (moves_frames x m y left)

  deep_z : Deepens (past (depth w) (overwritten z m)).frames (depth z) (depth w)
  deep_z = deepens (past (depth w) (overwritten z m)).frames z w (moves_frames z m w right)

  still_in : (wanted : List Place) → ArePlaces y wanted → ArePlaces x (still_wanted y (overwritten x m) wanted)
  still_in wanted all =
      carried_in (past (depth y) (overwritten x m)).frames x y (spared (written y (overwritten x m)) wanted) deep_x
      (λ p e. all p (in_filter (λ q. not (is_among (written y (overwritten x m)) q)) p wanted e).0)

  called_deep : (f : Frames) → Deepens f (depth x) (depth y) → f ≡ Fewer → 1 ≤ depth y
  called_deep Same deep e = cc
  called_deep (More saved) deep e = cc
  called_deep Fewer deep e = omega (arith, deep)

  -- A wanted place that was not written.
  kept_same : (wanted : List Place) → ArePlaces y wanted → Agree (still_wanted y (overwritten x m) wanted) x z → (p : Place) → is_in p wanted ≡ true → writes y (overwritten x m) p ≡ false → value y p ≡ value w p
  kept_same wanted all agree p there other =
      let is : IsPlace y p = all p there in
      let also : IsPlace w p = place_moves w y p (omega (arith, same_depth y w last)) is in
      let spare : is_in p (spared (written y (overwritten x m)) wanted) ≡ true = filter_has (λ q. not (is_among (written y (overwritten x m)) q)) p wanted there (ap not other) in
      law_places x m y left p is other
      ∙ agree (came_from y (overwritten x m) p)
      (carried_has (past (depth y) (overwritten x m)).frames y (spared (written y (overwritten x m)) wanted) p (called_deep (past (depth y) (overwritten x m)).frames deep_x) is spare)
      ∙ ap (value z) (inherited_same (past (depth y) (overwritten x m)).frames (past (depth w) (overwritten z m)).frames (depth x) (depth y) (depth z) (depth w) p deep_x deep_z (same_depth x z first) (same_depth y w last))
      ∙ sym (law_places z m w right p also (sym (ap (λ (ps : List Part). is_among ps p) places) ∙ other))

  -- What it followed agrees: what it read and its addresses.
  agree_followed : (a : Bool) → Agree (flat_map places_of (followed a x m)) x z → (a ≡ false → AgreeOn (bases x m) x z) → AgreeOn (reads x m ++ bases x m) x z
  agree_followed true agree at = agree
  agree_followed false agree at = λ p there.
      elim (in_either p (flat_map places_of (reads x m)) (flat_map places_of (bases x m)) (sym (ap (is_in p) (flat_map-append places_of (reads x m) (bases x m))) ∙ there)) [
        | inl read ↦ agree p (ap (is_in p) (flat_map-append places_of (reads x m) []) ∙ in_first p (flat_map places_of (reads x m)) [] read)
        | inr base ↦ at refl p base
      ]

  one_back : (wanted : List Place) → (addresses ≡ false → AgreeOn (bases x m) x z) → ArePlaces y wanted → (b : Bool) → are_hit (written y (overwritten x m)) wanted ≡ b → Agree (if b then want_all (still_wanted y (overwritten x m) wanted) (flat_map places_of (followed addresses x m)) else still_wanted y (overwritten x m) wanted) x z → Agree wanted y w
  one_back wanted at all true hit agree = λ p there.
      elim (cases_bool (writes y (overwritten x m) p)) [
        | inl wrote ↦ (law_writes x z m y w left right first (agree_followed addresses (λ q e. agree q (want_all_has_it (still_wanted y (overwritten x m) wanted) (flat_map places_of (followed addresses x m)) q e)) at)).values p wrote
        | inr other ↦ kept_same wanted all (λ q e. agree q (want_all_has (still_wanted y (overwritten x m) wanted) (flat_map places_of (followed addresses x m)) q e)) p there other
      ]
  one_back wanted at all false unhit agree = λ p there.
      elim (cases_bool (writes y (overwritten x m) p)) [
        | inl wrote ↦ absurd (both (hit_by (written y (overwritten x m)) wanted p there wrote) unhit)
        | inr other ↦ kept_same wanted all agree p there other
      ]

  passed_in : (wanted : List Place) → ArePlaces y wanted → (b : Bool) → ArePlaces x (if b then want_all (still_wanted y (overwritten x m) wanted) (flat_map places_of (followed addresses x m)) else still_wanted y (overwritten x m) wanted)
  passed_in wanted all true p e = elim (in_want_all (still_wanted y (overwritten x m) wanted) (flat_map places_of (followed addresses x m)) p e) [
    | inl still ↦ still_in wanted all p still
    | inr more ↦ parts_in x (followed addresses x m) (followed_in x m addresses) p more
  ]
  passed_in wanted all false p e = still_in wanted all p e

-- A whole history back.
first_alike : (addresses : Bool) (h : List Record) (y : State) (g : List Record) (w : State) → GoAlike addresses h y g w → StandAlike y w
first_alike addresses [] y [] w alike = alike
first_alike addresses [] y (s ∷ g) w alike = absurd alike
first_alike addresses (r ∷ h) y [] w alike = absurd alike
first_alike addresses (r ∷ h) y (s ∷ g) w alike = alike.0

pub law_left : LeftIsAll
unfolding left_of
law_left addresses wanted [] y [] w run other alike all agree = agree
law_left addresses wanted [] y (s ∷ g) w run other alike all agree = absurd alike
law_left addresses wanted (r ∷ h) y [] w run other alike all agree = absurd alike
law_left addresses wanted (r ∷ h) y (s ∷ g) w run other alike all agree =
    let right : Leads s.before r.move w = subst (λ (m : Move). Leads s.before m w) alike.1 other.0 in
    let first : StandAlike r.before s.before = first_alike addresses h r.before g s.before alike.4 in
    one_back addresses r.before s.before r.move y w run.0 right first alike.0 alike.2 wanted alike.3 all
    (are_hit (written y (overwritten r.before r.move)) wanted) refl
    (law_left addresses (passed addresses r y wanted) h r.before g s.before run.1 other.1 alike.4
    (passed_in addresses r.before s.before r.move y w run.0 right first alike.0 alike.2 wanted all (are_hit (written y (overwritten r.before r.move)) wanted))
    agree)
