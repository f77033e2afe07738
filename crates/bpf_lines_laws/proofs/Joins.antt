-- The code of objects that are joined, as that of the sections of each.
use Rattle.std.proofs.Common.{◌≡◌, ◌≤◌, ◌<◌, ◌⊎◌, inl, inr, ℕ, zero, suc, ◌+◌, ◌-◌, ◌*◌, ◌/◌, Bool, List, [], ◌∷◌, ◌++◌, None, Ok, length, get_or, take, refl, sym, ap, ap₂, subst, ◌∙◌, arith, append-nil, append_assoc, length-append}
use Rattle.std.specs.Prelude.{codes}
use Rattle.std.proofs.lemmas.List.{get_or-append_right, get_or_append_left}
use Rattle.bpf_link.specs.Links.{planned, unlinked}
use Rattle.bpf_link.specs.Parts.{slots_in}
use Rattle.bpf_link.specs.declared.plan.Plan.{Plan}
use Rattle.bpf_link.proofs.Inversions.{ok_same}
use Rattle.bpf_join.specs.Codes.{own_slots}
use Rattle.bpf_link_laws.specs.Codes.{IsBoth, answer}
use Rattle.bpf_link_laws.proofs.Inversions.{plan_is}
use Rattle.bpf_link_laws.proofs.Linking.{codes_joined}
use Rattle.bpf_lines.specs.Objects.{AreFunctions, AreLinesOf}
use Rattle.bpf_lines.specs.declared.objects.ObjectLines.{ObjectLines}
use Rattle.bpf_lines_laws.specs.Joins.{AreJoined, IsUnanswered}
use Rattle.bpf_lines_laws.specs.Origins.{Origin, in_object, origins, own_byte}
use Rattle.bpf_lines_laws.proofs.Functions.{functions_alone}
use Rattle.bpf_lines_laws.proofs.Rows.{object_length}
use Rattle.bpf_lines_laws.proofs.Sources.{AreSources, alone, object_byte}
use Rattle.bpf_lines_laws.proofs.Words.{code_slots}

origins_append : (xs ys : List ObjectLines) → origins (xs ++ ys) ≡ origins xs ++ origins ys
origins_append [] ys = refl
origins_append (x ∷ xs) ys = ap (λ rest. in_object x ++ rest) (origins_append xs ys) ∙ sym (append_assoc (in_object x) (origins xs) (origins ys))

either : (n m : ℕ) → (n < m) ⊎ (m ≤ n)
either n m = grind arith

-- what is told of the n-th of others
record IsNext (others : List (List ℕ)) (more : List ObjectLines) (n : ℕ) : Type 0 where
  lines : ObjectLines
  told : AreLinesOf (get_or others n []) (codes ".text") lines
  next : take (suc n) more ≡ take n more ++ lines ∷ []

next_told : (others : List (List ℕ)) (more : List ObjectLines) (n : ℕ) → AreFunctions others more → n < length others → IsNext others more n
next_told [] [] n all inside = absurd (omega arith)
next_told [] (lines ∷ more) n all inside = absurd all
next_told (other ∷ others) [] n all inside = absurd all
next_told (other ∷ others) (lines ∷ more) zero all inside = record { lines = lines; told = all.0; next = refl }
next_told (other ∷ others) (lines ∷ more) (suc n) all inside =
    let rest = next_told others more n all.1 (omega arith) in
    record { lines = rest.lines; told = rest.told; next = ap (λ l. lines ∷ l) rest.next }

eighth : (n m : ℕ) → n ≡ 8 * m → n / 8 ≡ m
eighth n m e = omega arith

-- one more object
whole_origins : (before : List ObjectLines) (lines : ObjectLines) → origins (before ++ lines ∷ []) ≡ origins before ++ in_object lines
whole_origins before lines = origins_append before (lines ∷ []) ∙ ap (λ l. origins before ++ l) (append-nil (in_object lines))

abbrev both_parts : Plan → ℕ
both_parts plan = slots_in plan.parts.code + slots_in plan.parts.text

less_sum : (q a b : ℕ) → q < a → q < a + b
less_sum q a b low = omega arith

function_byte : (lines : ObjectLines) (second : Plan) (q k : ℕ) (d : Origin) → lines.plan ≡ second → length lines.plan.parts.code.slots ≡ 8 * slots_in lines.plan.parts.code
    → q < slots_in lines.plan.parts.code → k < 8 → get_or second.parts.code.slots (8 * q + k) 0 ≡ own_byte (get_or (in_object lines) q d) k
function_byte lines second q k d same whole low small =
    let code = lines.plan.parts.code.slots in
    let text = lines.plan.parts.text.slots in
    ap (λ (plan : Plan). get_or plan.parts.code.slots (8 * q + k) 0) (sym same)
    ∙ sym (get_or_append_left code text 0 (8 * q + k) (omega (arith, whole)))
    ∙ object_byte lines q k d whole (less_sum q (slots_in lines.plan.parts.code) (slots_in lines.plan.parts.text) low) small

added_up : (code text front more none all : ℕ) → code ≡ 8 * (front + more) → text ≡ 0 → none ≡ 0 → all ≡ front + (more + none) → code / 8 + text ≡ all
added_up code text front more none all size zero_text zero_none whole = omega arith

behind_front : (n front more none all : ℕ) → n < all → front ≤ n → all ≡ front + (more + none) → none ≡ 0 → n - front < more
behind_front n front more none all low high whole zero_none = omega arith

record IsAnother (plan first second : Plan) (lines : ObjectLines) : Type 0 where
  both : IsBoth first second plan.parts.code.slots
  no_text : slots_in plan.parts.text ≡ 0
  same : lines.plan ≡ second
  alone : slots_in second.parts.text ≡ 0
  whole : length lines.plan.parts.code.slots ≡ 8 * slots_in lines.plan.parts.code

one_more : (plan first second : Plan) (before : List ObjectLines) (lines : ObjectLines) (Stays : ℕ → Type 0) → AreSources (unlinked first.parts) (code_slots first.parts) before Stays
    → IsAnother plan first second lines → AreSources (unlinked plan.parts) (code_slots plan.parts) (before ++ lines ∷ []) (λ n. Stays n × (answer first second n ≡ None))
one_more plan first second before lines Stays sources another = record {
  size = added_up (length plan.parts.code.slots) (slots_in plan.parts.text) own (slots_in second.parts.code) (slots_in second.parts.text) (length (origins (before ++ lines ∷ [])))
      slots another.no_text another.alone all_is;
  same = λ n k d inside stays small. by n k d inside stays small (either n own);
}
  where
    code : List ℕ
    code = plan.parts.code.slots

    text : List ℕ
    text = plan.parts.text.slots

    own : ℕ
    own = own_slots first

    slots : length code ≡ 8 * (own + slots_in second.parts.code)
    slots = another.both.size

    fronts : own ≡ length (origins before)
    fronts = sources.size

    all_is : length (origins (before ++ lines ∷ [])) ≡ own + (slots_in second.parts.code + slots_in second.parts.text)
    all_is =
        ap length (whole_origins before lines)
        ∙ length-append (origins before) (in_object lines)
        ∙ ap₂ (λ a b. a + b) (sym fronts) (object_length lines ∙ ap both_parts another.same)

    code_is : slots_in lines.plan.parts.code ≡ slots_in second.parts.code
    code_is = ap (λ (plan : Plan). slots_in plan.parts.code) another.same

    by : (n k : ℕ) (d : Origin) → n < length (origins (before ++ lines ∷ [])) → Stays n × (answer first second n ≡ None) → k < 8 → (n < own) ⊎ (own ≤ n)
        → get_or (code ++ text) (8 * n + k) 0 ≡ own_byte (get_or (origins (before ++ lines ∷ [])) n d) k
    by n k d inside stays small (inl low) =
        get_or_append_left code text 0 (8 * n + k) (omega (arith, slots))
        ∙ another.both.own n k low small stays.1
        ∙ sources.same n k d (omega (arith, fronts)) stays.0 small
        ∙ sym (ap (λ it. own_byte it k)
        (ap (λ l. get_or l n d) (whole_origins before lines) ∙ get_or_append_left (origins before) (in_object lines) d n (omega (arith, fronts))))
    by n k d inside stays small (inr high) =
        let less : n - own < slots_in second.parts.code = behind_front n own (slots_in second.parts.code) (slots_in second.parts.text) (length (origins (before ++ lines ∷ []))) inside high all_is another.alone in
        let place : 8 * n + k ≡ 8 * (own + (n - own)) + k = omega arith in
        get_or_append_left code text 0 (8 * n + k) (omega (arith, slots))
        ∙ ap (λ i. get_or code i 0) place
        ∙ another.both.functions (n - own) k less small
        ∙ function_byte lines second (n - own) k d another.same another.whole (subst (λ m. n - own < m) (sym code_is) less) small
        ∙ sym (ap (λ it. own_byte it k)
        (ap (λ l. get_or l n d) (whole_origins before lines) ∙ get_or-append_right (origins before) (in_object lines) own n d (sym fronts) high))

-- an object, and the first n of others
pub chain : (own section : List ℕ) (others : List (List ℕ)) (as_compiled : Bool) (mine : ObjectLines) (more : List ObjectLines) → AreLinesOf own section mine → AreFunctions others more
    → (n : ℕ) (bytes : List ℕ) (joins : AreJoined own others section as_compiled n bytes) → n ≤ length others → (plan : Plan) → planned bytes section ≡ Ok plan
    → AreSources (unlinked plan.parts) (code_slots plan.parts) (mine ∷ take n more) (IsUnanswered own others section as_compiled n bytes joins)
chain own section others as_compiled mine more first told zero bytes joins inside plan e =
    let same : plan ≡ mine.plan = ok_same plan mine.plan (sym e ∙ ap (λ b. planned b section) joins ∙ first.plans) in
    subst (λ (plan : Plan). AreSources (unlinked plan.parts) (code_slots plan.parts) (mine ∷ []) (λ n. Unit {0})) (sym same)
    (alone mine (λ n. Unit {0}) (plan_is own section mine.plan first.plans).whole)
chain own section others as_compiled mine more first told (suc n) bytes joins inside plan e =
    let before = joins.0 in
    let one = joins.2 in
    let other = get_or others n [] in
    let pair = one.join.joins.pair in
    let Stays = IsUnanswered own others section as_compiled n before joins.1 in
    let rest = chain own section others as_compiled mine more first told n before joins.1 (omega arith) pair.first pair.plans in
    let next = next_told others more n told inside in
    let same : next.lines.plan ≡ pair.second = ok_same next.lines.plan pair.second (sym next.told.plans ∙ pair.functions) in
    let another : IsAnother plan pair.first pair.second next.lines = record {
      both = codes_joined before other section as_compiled one.joined one.join plan (ap (λ b. planned b section) (sym one.bytes_are) ∙ e);
      no_text = one.no_text plan e;
      same = same;
      alone = functions_alone other pair.second pair.functions;
      whole = (plan_is other (codes ".text") next.lines.plan next.told.plans).whole;
    } in
    subst (λ all. AreSources (unlinked plan.parts) (code_slots plan.parts) (mine ∷ all) (IsUnanswered own others section as_compiled (suc n) bytes joins)) (sym next.next)
    (one_more plan pair.first pair.second (mine ∷ take n more) next.lines Stays rest another)

pub as_many : (others : List (List ℕ)) (more : List ObjectLines) → AreFunctions others more → length more ≡ length others
as_many [] [] all = refl
as_many [] (lines ∷ more) all = absurd all
as_many (other ∷ others) [] all = absurd all
as_many (other ∷ others) (lines ∷ more) all = ap suc (as_many others more all.1)
