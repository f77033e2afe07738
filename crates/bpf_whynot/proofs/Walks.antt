-- What tables tell of the frames of a machine, one after another.
use Rattle.std.proofs.Common.{◌≡◌, ◌<◌, ◌≤◌, ℕ, zero, suc, ◌+◌, ◌-◌, Bool, true, false, List, [], ◌∷◌, length, get_or, drop, refl, sym, ap, ◌∙◌, subst, arith, None, length-drop}
use Rattle.std.specs.Prelude.{◌&&◌, ◌||◌, map, slice_get, nat_lt, if◌then◌else◌}
use Rattle.std.specs.Option.{option_map_or}
use Rattle.std.proofs.Math.Seq.{drop-cons}
use Rattle.std.proofs.Math.ListN.{drop_of_length-le}
use Rattle.std.proofs.lemmas.Bool.Decides.{nat_tests}
use Rattle.std.proofs.lemmas.List.{get_or-reverse, length-reverse, length-map}
use Rattle.bpf_steps.specs.State.{State, depth}
use Rattle.bpf_steps.specs.declared.frame.Frame.{Frame}
use Rattle.bpf_whynot.specs.Reach.{return_slot, return_slots}
use Rattle.bpf_whynot.specs.Tables.{Table, is_in, table_of_depth, told_by}

told_cons : (tables : List Table) (p q : ℕ) (rest returns : List ℕ) → returns ≡ q ∷ rest
    → told_by tables p returns ≡ (is_in (table_of_depth tables (length returns)).hits p || (is_in (table_of_depth tables (length returns)).returns p && told_by tables q rest))
told_cons tables p q rest returns e =
    subst (λ (rs : List ℕ). told_by tables p rs ≡ (is_in (table_of_depth tables (length rs)).hits p || (is_in (table_of_depth tables (length rs)).returns p && told_by tables q rest)))
    (sym e) refl

told_next : (tables : List Table) (p i : ℕ) (returns : List ℕ) → i < length returns
    → told_by tables p (drop i returns)
    ≡ (is_in (table_of_depth tables (length returns - i)).hits p
    || (is_in (table_of_depth tables (length returns - i)).returns p && told_by tables (get_or returns i 0) (drop (suc i) returns)))
told_next tables p i returns low =
    told_cons tables p (get_or returns i 0) (drop (suc i) returns) (drop i returns) (drop-cons returns i 0 low)
    ∙ ap (λ (d : ℕ). is_in (table_of_depth tables d).hits p || (is_in (table_of_depth tables d).returns p && told_by tables (get_or returns i 0) (drop (suc i) returns)))
    (length-drop i returns)

-- the slots of return, one by one
pub slots_length : (x : State) → length (return_slots x) ≡ depth x
slots_length x = length-reverse (map (λ (f : Frame). f.return_pc) x.frames) ∙ length-map x.frames (λ (f : Frame). f.return_pc)

read : (frames : List Frame) (j : ℕ) → j < length frames → option_map_or (λ (f : Frame). f.return_pc) (slice_get frames j) 0 ≡ get_or (map (λ (f : Frame). f.return_pc) frames) j 0
read [] j low = absurd (omega (arith, low))
read (f ∷ frames) zero low = refl
read (f ∷ frames) (suc j) low = read frames j (omega (arith, low))

is_below : (i n : ℕ) → i < n → nat_lt i n ≡ true
is_below i n low = grind (arith, nat_tests)

pub slot_read : (x : State) (i : ℕ) → i < depth x → return_slot x i ≡ get_or (return_slots x) i 0
slot_read x i low =
    let size = length-map x.frames (λ (f : Frame). f.return_pc) in
    ap (λ (b : Bool). option_map_or (λ (f : Frame). f.return_pc) (if b then slice_get x.frames (depth x - 1 - i) else None) 0) (is_below i (depth x) low)
    ∙ read x.frames (depth x - 1 - i) (omega (arith, low))
    ∙ ap (λ (n : ℕ). get_or (map (λ (f : Frame). f.return_pc) x.frames) (n - 1 - i) 0) (sym size)
    ∙ sym (get_or-reverse (map (λ (f : Frame). f.return_pc) x.frames) i 0 (omega (arith, low, size)))

-- so far: what is told of the first slot is what is told of this one
pub record ToldSo (tables : List Table) (x : State) (i p : ℕ) : Type 0 where
  pub same : told_by tables x.pc (return_slots x) ≡ told_by tables p (drop i (return_slots x))

pub told_begins : (tables : List Table) (x : State) → ToldSo tables x 0 x.pc
told_begins tables x = record { same = refl }

told_here : (tables : List Table) (x : State) (i p : ℕ) → i < depth x → ToldSo tables x i p
    → told_by tables x.pc (return_slots x)
    ≡ (is_in (table_of_depth tables (depth x - i)).hits p || (is_in (table_of_depth tables (depth x - i)).returns p && told_by tables (return_slot x i) (drop (suc i) (return_slots x))))
told_here tables x i p low t =
    let size = slots_length x in
    t.same ∙ told_next tables p i (return_slots x) (omega (arith, low, size))
    ∙ ap (λ (n : ℕ). is_in (table_of_depth tables (n - i)).hits p || (is_in (table_of_depth tables (n - i)).returns p && told_by tables (get_or (return_slots x) i 0) (drop (suc i) (return_slots x)))) size
    ∙ ap (λ (q : ℕ). is_in (table_of_depth tables (depth x - i)).hits p || (is_in (table_of_depth tables (depth x - i)).returns p && told_by tables q (drop (suc i) (return_slots x)))) (sym (slot_read x i low))

hit_is : (a b : Bool) → a ≡ true → (a || b) ≡ true
hit_is true b e = refl
hit_is false b e = absurd cc

miss_is : (a b c : Bool) → a ≡ false → b ≡ false → (a || (b && c)) ≡ false
miss_is false false c e f = refl
miss_is true b c e f = absurd cc
miss_is false true c e f = absurd cc

goes_is : (a b c : Bool) → a ≡ false → b ≡ true → (a || (b && c)) ≡ c
goes_is false true c e f = refl
goes_is true b c e f = absurd cc
goes_is false false c e f = absurd cc

module _ (tables : List Table) (x : State) (i p : ℕ) (level : Table) (at : level ≡ table_of_depth tables (depth x - i)) where
  pub told_hit : i < depth x → ToldSo tables x i p → is_in level.hits p ≡ true → told_by tables x.pc (return_slots x) ≡ true
  told_hit low t hit = told_here tables x i p low t ∙ hit_is _ _ (subst (λ (t : Table). is_in t.hits p ≡ true) at hit)

  pub told_miss : i < depth x → ToldSo tables x i p → is_in level.hits p ≡ false → is_in level.returns p ≡ false → told_by tables x.pc (return_slots x) ≡ false
  told_miss low t hit back =
      told_here tables x i p low t
      ∙ miss_is _ _ _ (subst (λ (t : Table). is_in t.hits p ≡ false) at hit) (subst (λ (t : Table). is_in t.returns p ≡ false) at back)

  pub told_goes : (q : ℕ) → i < depth x → ToldSo tables x i p → is_in level.hits p ≡ false → is_in level.returns p ≡ true → q ≡ return_slot x i → ToldSo tables x (i + 1) q
  told_goes q low t hit back is = record {
    same = told_here tables x i p low t
        ∙ goes_is _ _ _ (subst (λ (t : Table). is_in t.hits p ≡ false) at hit) (subst (λ (t : Table). is_in t.returns p ≡ true) at back)
        ∙ ap (λ (s : ℕ). told_by tables s (drop (suc i) (return_slots x))) (sym is)
        ∙ ap (λ (n : ℕ). told_by tables q (drop n (return_slots x))) next;
  }
    where
      next : suc i ≡ i + 1
      next = omega arith

told_none : (tables : List Table) (p : ℕ) (returns : List ℕ) → returns ≡ [] → told_by tables p returns ≡ is_in (table_of_depth tables 0).hits p
told_none tables p returns e = ap (told_by tables p) e

pub told_ends : (tables : List Table) (x : State) (i p : ℕ) (level : Table) → level ≡ table_of_depth tables 0 → depth x ≤ i → ToldSo tables x i p
    → told_by tables x.pc (return_slots x) ≡ is_in level.hits p
told_ends tables x i p level at all t =
    let size = slots_length x in
    let short : length (return_slots x) ≤ i = omega (arith, size, all) in
    t.same ∙ told_none tables p (drop i (return_slots x)) (drop_of_length-le (return_slots x) short) ∙ ap (λ (t : Table). is_in t.hits p) (sym at)
