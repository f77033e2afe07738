-- The tables tell just from where a goal can be come to.
use Rattle.std.proofs.Common.{◌≡◌, ◌<◌, ◌⊎◌, inl, inr, ℕ, zero, suc, ◌+◌, ◌-◌, Bool, true, false, List, [], ◌∷◌, length, Some, refl, sym, ap, ◌∙◌, subst, arith}
use Rattle.std.specs.Prelude.{pos, ◌&&◌, ◌||◌}
use Rattle.bpf_isa.specs.Programs.{Checked, insn_at, slots_of, target_of}
use Rattle.bpf_isa.specs.declared.instruction.Insn.{Insn}
use Rattle.bpf_isa.specs.declared.instruction.Insn.TheVariants.{Exit}
use Rattle.bpf_steps.specs.Platform.{frame_count}
use Rattle.bpf_whynot.specs.Reach.{CanReach, TellsReach, calls}
use Rattle.bpf_whynot.specs.Reach.CanReach.{there, on, jumped, called, returned}
use Rattle.bpf_whynot.specs.Flows.{behind, ends, enters, jump}
use Rattle.bpf_whynot.specs.Levels.{AreLevels, IsLevel, is_seed, table_above}
use Rattle.bpf_whynot.specs.Tables.{AreGoals, Table, is_in, no_table, table_of_depth, told_by}
use Rattle.bpf_whynot.specs.Walks.{Comes}
use Rattle.bpf_whynot.specs.Walks.Comes.{here, on as comes_on, jumps as comes_jumps}
use Rattle.bpf_whynot.proofs.Flowing.{Calling, Going, Jumping, behind_back, behind_call, behind_on, ends_back, ends_there, enters_back, enters_call, jump_back, jump_there, stands_within}
use Rattle.bpf_whynot.proofs.Walking.{reached_within}

or_cases : (a b : Bool) → (a || b) ≡ true → (a ≡ true) ⊎ (b ≡ true)
or_cases true b e = inl refl
or_cases false b e = inr e

or_left : (a b : Bool) → a ≡ true → (a || b) ≡ true
or_left true b e = refl
or_left false b e = absurd cc

or_right : (a b : Bool) → b ≡ true → (a || b) ≡ true
or_right true b e = refl
or_right false b e = e

and_both : (a b : Bool) → (a && b) ≡ true → (a ≡ true) × (b ≡ true)
and_both true b e = (refl, e)
and_both false b e = absurd cc

both_and : (a b : Bool) → a ≡ true → b ≡ true → (a && b) ≡ true
both_and true b e f = f
both_and false b e f = absurd cc

module _ (program : Checked) (goals : List ℕ) where
  -- what is known of a depth is right, and of the functions that are called there
  record IsSound (d : ℕ) (t : Table) : Type 0 where
    pub hits : (p : ℕ) (returns : List ℕ) → is_in t.hits p ≡ true → length returns ≡ d → CanReach program goals p returns
    pub back : (p q : ℕ) (returns : List ℕ) → is_in t.returns p ≡ true → length returns + 1 ≡ d → CanReach program goals q returns
        → CanReach program goals p (q ∷ returns)

  record IsSoundAbove (d : ℕ) (t : Table) : Type 0 where
    pub room : (p : ℕ) → is_in t.hits p ≡ true → d + 1 < frame_count
    pub back_room : (p : ℕ) → is_in t.returns p ≡ true → d + 1 < frame_count
    pub hits : (p q : ℕ) (returns : List ℕ) → is_in t.hits p ≡ true → length returns ≡ d → CanReach program goals p (q ∷ returns)
    pub back : (p q : ℕ) (returns : List ℕ) → is_in t.returns p ≡ true → length returns ≡ d → CanReach program goals q returns
        → CanReach program goals p (q ∷ returns)

  call_hits : (d : ℕ) (t : Table) (p : ℕ) (returns : List ℕ) → IsSoundAbove d t → length returns ≡ d → Calling program t.hits p → CanReach program goals p returns
  call_hits d t p returns above size c =
      let room = above.room c.to c.known in
      called c.insn c.to c.stands c.call c.target (omega (arith, size, room)) (above.hits c.to (p + 1) returns c.known size)

  call_back : (d : ℕ) (t : Table) (p : ℕ) (returns : List ℕ) → IsSoundAbove d t → length returns ≡ d → Calling program t.returns p
      → CanReach program goals (p + 1) returns → CanReach program goals p returns
  call_back d t p returns above size c from =
      let room = above.back_room c.to c.known in
      called c.insn c.to c.stands c.call c.target (omega (arith, size, room)) (above.back c.to (p + 1) returns c.known size from)

  jump_reach : (p q : ℕ) (returns : List ℕ) → Jumping program p q → CanReach program goals q returns → CanReach program goals p returns
  jump_reach p q returns j from = jumped j.insn q j.stands j.jump j.target from

  behind_reach : (d : ℕ) (t : Table) (p q : ℕ) (returns : List ℕ) → IsSoundAbove d t → length returns ≡ d
      → Going program p q ⊎ (Calling program t.returns p × (q ≡ p + 1)) → CanReach program goals q returns → CanReach program goals p returns
  behind_reach d t p q returns above size (inl g) from = on g.insn g.stands g.on (subst (λ (i : ℕ). CanReach program goals i returns) g.there from)
  behind_reach d t p q returns above size (inr c) from = call_back d t p returns above size c.0 (subst (λ (i : ℕ). CanReach program goals i returns) c.1 from)

  comes_reach : (d : ℕ) (t : Table) (seed : ℕ → Bool) (p : ℕ) (returns : List ℕ) → IsSoundAbove d t → length returns ≡ d
      → ((q : ℕ) → seed q ≡ true → CanReach program goals q returns) → Comes (behind program t.returns) (jump program) seed p → CanReach program goals p returns
  comes_reach d t seed p returns above size seeds (here e) = seeds p e
  comes_reach d t seed p returns above size seeds (comes_on q e c) =
      behind_reach d t p q returns above size (behind_back program t.returns p q e) (comes_reach d t seed q returns above size seeds c)
  comes_reach d t seed p returns above size seeds (comes_jumps q e c) =
      jump_reach p q returns (jump_back program p q e) (comes_reach d t seed q returns above size seeds c)

  seed_reach : (d : ℕ) (flags : List Bool) (t : Table) (p : ℕ) (returns : List ℕ) → AreGoals program goals flags → IsSoundAbove d t → length returns ≡ d
      → (is_in flags p ≡ true) ⊎ (enters program t.hits p ≡ true) → CanReach program goals p returns
  seed_reach d flags t p returns are above size (inl e) = there (sym (are.each p) ∙ e)
  seed_reach d flags t p returns are above size (inr e) = call_hits d t p returns above size (enters_back program t.hits p e)

  sound_level : (d : ℕ) (flags : List Bool) (upper t : Table) → AreGoals program goals flags → IsSoundAbove d upper → IsLevel program flags upper t → IsSound d t
  sound_level d flags upper t are above level = record {
    hits = λ p returns marked size.
        comes_reach d upper (is_seed program flags upper.hits) p returns above size
        (λ q e. seed_reach d flags upper q returns are above size (or_cases (is_in flags q) (enters program upper.hits q) e)) (level.hit.sound p marked);
    back = λ p q returns marked size from.
        comes_reach d upper (ends program) p (q ∷ returns) above (sizes q returns size)
        (λ s e. returned (ends_back program s e) from) (level.return.sound p marked);
  }
    where
      sizes : (q : ℕ) (returns : List ℕ) → length returns + 1 ≡ d → length (q ∷ returns) ≡ d
      sizes q returns size = omega (arith, size)

  no_mark : {A : Type 0} (p : ℕ) → is_in [] p ≡ true → A
  no_mark p e = absurd cc

  none_above : (d : ℕ) → IsSoundAbove d no_table
  none_above d = record {
    room = λ p marked. no_mark p marked;
    back_room = λ p marked. no_mark p marked;
    hits = λ p q returns marked size. no_mark p marked;
    back = λ p q returns marked size from. no_mark p marked;
  }

  next_above : (d : ℕ) (t : Table) → d + 1 < frame_count → IsSound (d + 1) t → IsSoundAbove d t
  next_above d t room s = record {
    room = λ p marked. room;
    back_room = λ p marked. room;
    hits = λ p q returns marked size. s.hits p (q ∷ returns) marked (sizes q returns size);
    back = λ p q returns marked size from. s.back p q returns marked (omega (arith, size)) from;
  }
    where
      sizes : (q : ℕ) (returns : List ℕ) → length returns ≡ d → length (q ∷ returns) ≡ d + 1
      sizes q returns size = omega (arith, size)

module _ (program : Checked) (goals : List ℕ) (flags : List Bool) (tables : List Table) (are : AreGoals program goals flags) (levels : AreLevels program flags 8 tables) where
  level_at : (d : ℕ) → d < 8 → IsLevel program flags (table_above tables (7 - d)) (table_of_depth tables d)
  level_at d low = levels.each (7 - d) (omega arith)

  above_is : (d : ℕ) → d + 1 < 8 → table_above tables (7 - d) ≡ table_of_depth tables (d + 1)
  above_is d low =
      let next : 7 - d ≡ suc (7 - (d + 1)) = omega arith in
      ap (table_above tables) next

  sounds : (k d : ℕ) → k + d ≡ 7 → IsSound program goals d (table_of_depth tables d)
  sounds zero d e =
      let top : 7 - d ≡ 0 = omega arith in
      sound_level program goals d flags (table_above tables (7 - d)) (table_of_depth tables d) are
      (subst (λ (t : Table). IsSoundAbove program goals d t) (sym (ap (table_above tables) top)) (none_above program goals d))
      (level_at d (omega arith))
  sounds (suc k) d e =
      let low : d + 1 < 8 = omega arith in
      sound_level program goals d flags (table_above tables (7 - d)) (table_of_depth tables d) are
      (subst (λ (t : Table). IsSoundAbove program goals d t) (sym (above_is d low))
      (next_above program goals d (table_of_depth tables (d + 1)) low (sounds k (d + 1) (omega arith))))
      (level_at d (omega arith))

  sound : (p : ℕ) (returns : List ℕ) → length returns < 8 → told_by tables p returns ≡ true → CanReach program goals p returns
  sound p [] low e = (sounds 7 0 (omega arith)).hits p [] e refl
  sound p (q ∷ returns) low e = by_case (λ told. sound q returns (omega arith) told) (or_cases _ _ e)
    where
      by_case : (told_by tables q returns ≡ true → CanReach program goals q returns)
          → (is_in (table_of_depth tables (length (q ∷ returns))).hits p ≡ true)
          ⊎ ((is_in (table_of_depth tables (length (q ∷ returns))).returns p && told_by tables q returns) ≡ true) → CanReach program goals p (q ∷ returns)
      by_case from (inl hit) = (sounds (7 - length (q ∷ returns)) (length (q ∷ returns)) (omega arith)).hits p (q ∷ returns) hit refl
      by_case from (inr both) =
          let one : length returns + 1 ≡ length (q ∷ returns) = omega arith in
          let two = and_both (is_in (table_of_depth tables (length (q ∷ returns))).returns p) (told_by tables q returns) both in
          (sounds (7 - length (q ∷ returns)) (length (q ∷ returns)) (omega arith)).back p q returns two.0 one (from two.1)

  -- the other way
  hit_told : (p : ℕ) (returns : List ℕ) → is_in (table_of_depth tables (length returns)).hits p ≡ true → told_by tables p returns ≡ true
  hit_told p [] e = e
  hit_told p (q ∷ returns) e = or_left _ _ e

  edge_told : (p q : ℕ) (returns : List ℕ)
      → (is_in (table_of_depth tables (length returns)).hits q ≡ true → is_in (table_of_depth tables (length returns)).hits p ≡ true)
      → (is_in (table_of_depth tables (length returns)).returns q ≡ true → is_in (table_of_depth tables (length returns)).returns p ≡ true)
      → told_by tables q returns ≡ true → told_by tables p returns ≡ true
  edge_told p q [] hits back e = hits e
  edge_told p q (r ∷ returns) hits back e = by_case (or_cases _ _ e)
    where
      by_case : (is_in (table_of_depth tables (length (r ∷ returns))).hits q ≡ true)
          ⊎ ((is_in (table_of_depth tables (length (r ∷ returns))).returns q && told_by tables r returns) ≡ true) → told_by tables p (r ∷ returns) ≡ true
      by_case (inl hit) = or_left _ _ (hits hit)
      by_case (inr both) = let two = and_both _ _ both in or_right _ _ (both_and _ _ (back two.0) two.1)

  behind_told : (p q : ℕ) (returns : List ℕ) → length returns < 8 → p < length program.insns
      → behind program (table_above tables (7 - length returns)).returns p ≡ Some q → told_by tables q returns ≡ true → told_by tables p returns ≡ true
  behind_told p q returns low within leads e =
      let level = level_at (length returns) low in
      edge_told p q returns (λ hit. level.hit.on p q within leads hit) (λ back. level.return.on p q within leads back) e

  call_told : (p q : ℕ) (returns : List ℕ) (i : Insn) → length returns + 1 < 8 → insn_at program p ≡ Some i → calls i ≡ true → target_of p i ≡ Some (pos q)
      → (is_in (table_of_depth tables (length returns + 1)).hits q ≡ true)
      ⊎ ((is_in (table_of_depth tables (length returns + 1)).returns q && told_by tables (p + 1) returns) ≡ true)
      → told_by tables p returns ≡ true
  call_told p q returns i low stands call to (inl hit) =
      let level = level_at (length returns) (omega arith) in
      let known = subst (λ (t : Table). is_in t.hits q ≡ true) (sym (above_is (length returns) low)) hit in
      hit_told p returns (level.hit.here p (stands_within program p i stands)
      (or_right (is_in flags p) _ (enters_call program (table_above tables (7 - length returns)).hits p q i stands call to known)))
  call_told p q returns i low stands call to (inr both) =
      let two = and_both _ _ both in
      let known = subst (λ (t : Table). is_in t.returns q ≡ true) (sym (above_is (length returns) low)) two.0 in
      behind_told p (p + 1) returns (omega arith) (stands_within program p i stands)
      (behind_call program (table_above tables (7 - length returns)).returns p q i stands call to known) two.1

  plus_one : (q : ℕ) (returns : List ℕ) → length (q ∷ returns) ≡ length returns + 1
  plus_one q returns = omega arith

  complete : (p : ℕ) (returns : List ℕ) → CanReach program goals p returns → length returns < 8 → told_by tables p returns ≡ true
  complete p returns (there e) low =
      let level = level_at (length returns) low in
      let flag = are.each p ∙ e in
      let within = reached_within flags p flag in
      let size = are.size in
      hit_told p returns (level.hit.here p (omega (arith, within, size)) (or_left _ _ flag))
  complete p returns (on i stands goes c) low =
      behind_told p (p + slots_of i) returns low (stands_within program p i stands)
      (behind_on program (table_above tables (7 - length returns)).returns p i stands goes) (complete (p + slots_of i) returns c low)
  complete p returns (jumped i q stands jump to c) low =
      let level = level_at (length returns) low in
      let within = stands_within program p i stands in
      let leads = jump_there program p q i stands jump to in
      edge_told p q returns (λ hit. level.hit.jumps p q within leads hit) (λ back. level.return.jumps p q within leads back) (complete q returns c low)
  complete p returns (called i q stands call to room c) low =
      let told = complete q ((p + 1) ∷ returns) c (omega arith) in
      call_told p q returns i room stands call to
      (subst (λ (d : ℕ). (is_in (table_of_depth tables d).hits q ≡ true)
      ⊎ ((is_in (table_of_depth tables d).returns q && told_by tables (p + 1) returns) ≡ true)) (plus_one (p + 1) returns) (or_cases _ _ told))
  complete p (q ∷ returns) (returned stands c) low =
      let level = level_at (length (q ∷ returns)) low in
      or_right _ _ (both_and _ _ (level.return.here p (stands_within program p Exit stands) (ends_there program p stands)) (complete q returns c (omega arith)))

  pub tells : TellsReach program goals (told_by tables)
  tells p returns low = (sound p returns low, λ can. complete p returns can low)
