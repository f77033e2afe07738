-- What is told of several objects, and their rows.
use Rattle.std.proofs.Common.{◌≡◌, ◌<◌, ◌≤◌, ◌+◌, ◌-◌, ◌*◌, ◌/◌, ◌==◌, ℕ, zero, suc, false, List, [], ◌∷◌, ◌++◌, add-one, append_assoc, length, map, take, refl, sym, ap, subst, ◌∙◌, arith, codes}
use Rattle.std.proofs.lemmas.List.{append-nil, get_or_past, get_or-map, take_all, take_more}
use Rattle.std.proofs.lemmas.List.Elements.{All-head, All-push, All-rest, All-same}
use Rattle.std.proofs.lemmas.List.Sums.{sum_by-cons}
use Rattle.std.specs.Prelude.{All, Some, Vec, get_or, slice_index, sum_by, if◌then◌else◌}
use Rattle.std.specs.List.{AllZip}
use Rattle.std.specs.declared.alloc.Global.{Global}
use Rattle.bpf_link.specs.Names.{built}
use Rattle.bpf_link.specs.Parts.{slots_in}
use Rattle.bpf_link.specs.declared.parts.Part.{Part}
use Rattle.bpf_link.specs.declared.plan.Plan.{Plan}
use Rattle.bpf_lines.specs.Objects.{AreBehind, AreFunctions, AreLinesOf, HasPartLines, IsFunctionsRefusal, IsLinesRefusal, object_rows, rows_of_all, slots_of}
use Rattle.bpf_lines.specs.Rows.{row_text, rows, said_in, with_row}
use Rattle.bpf_lines.specs.declared.objects.LinesFault.{LinesFault}
use Rattle.bpf_lines.specs.declared.objects.ObjectLines.{ObjectLines}
use Rattle.bpf_lines.specs.declared.part_lines.PartLines.{PartLines}

-- one more on either side
zip_push : {A B : Type 0} (R : A → B → Type 0) (xs : List A) (ys : List B) (x : A) (y : B) → AllZip R xs ys → R x y
    → AllZip R (xs ++ x ∷ []) (ys ++ y ∷ [])
zip_push R [] [] x y known r = (r, tt)
zip_push R [] (b ∷ ys) x y known r = absurd known
zip_push R (a ∷ xs) [] x y known r = absurd known
zip_push R (a ∷ xs) (b ∷ ys) x y known r = (known.0, zip_push R xs ys x y known.1 r)

-- of no object, of one more, and of all
pub behind_none : (before : List ObjectLines) (objects : List (List ℕ)) → AreBehind before (take 0 objects) before
behind_none before objects = record { more = []; functions = tt; order = sym (append-nil before) }

pub behind_more : (before all next : List ObjectLines) (objects : List (List ℕ)) (n : ℕ) (object : List ℕ) (lines : ObjectLines) → n < length objects
    → object ≡ get_or objects n [] → AreBehind before (take n objects) all → AreLinesOf object (codes ".text") lines → next ≡ all ++ lines ∷ []
    → AreBehind before (take (n + 1) objects) next
behind_more before all next objects n object lines inside same known told e = record {
  more = known.more ++ lines ∷ [];
  functions =
      subst (λ (os : List (List ℕ)). AreFunctions os (known.more ++ lines ∷ [])) (sym (take_more objects n [] inside))
      (zip_push (λ o l. AreLinesOf o (codes ".text") l) (take n objects) known.more (get_or objects n []) lines known.functions
      (subst (λ o. AreLinesOf o (codes ".text") lines) same told));
  order = e ∙ ap (λ (xs : List ObjectLines). xs ++ lines ∷ []) known.order ∙ append_assoc before known.more (lines ∷ []);
}

pub behind_all : (before all : List ObjectLines) (objects : List (List ℕ)) (n : ℕ) → length objects ≤ n → AreBehind before (take n objects) all
    → AreBehind before objects all
behind_all before all objects n enough known = subst (λ (os : List (List ℕ)). AreBehind before os all) (take_all n objects enough) known

pub told_more : (all next : List ObjectLines) (object : List ℕ) (lines : ObjectLines) → All HasPartLines all → AreLinesOf object (codes ".text") lines
    → next ≡ all ++ lines ∷ [] → All HasPartLines next
told_more all next object lines known told e = All-same HasPartLines next (all ++ lines ∷ []) e (All-push HasPartLines all lines known told.told)

-- the first one, and the rest
pub head_told : (all : List ObjectLines) (lines : ObjectLines) (rest : List ObjectLines) → all ≡ lines ∷ rest → All HasPartLines all → HasPartLines lines
head_told all lines rest e known = All-head HasPartLines lines rest (subst (All HasPartLines) e known)

pub rest_told : (all : List ObjectLines) (lines : ObjectLines) (rest : List ObjectLines) → all ≡ lines ∷ rest → All HasPartLines all → All HasPartLines rest
rest_told all lines rest e known = All-rest HasPartLines lines rest all e known

-- Another object by its number, and how many there are.
pub other_is : (others : List (Vec ℕ Global)) (k : ℕ) (it : Vec ℕ Global) → k < length others
    → get_or (map (λ other. other.items) others) k [] ≡ (get_or others k it).items
other_is others k it inside = get_or-map (λ other. other.items) others k it [] inside

pub same_length : (others : List (Vec ℕ Global)) → length (map (λ other. other.items) others) ≡ length others
same_length [] = refl
same_length (other ∷ others) = ap suc (same_length others)

-- the object of a number is refused
pub refused_at : (before all : List ObjectLines) (objects : List (List ℕ)) (n : ℕ) (object : List ℕ) (told : LinesFault) → n < length objects
    → AreBehind before (take n objects) all → object ≡ get_or objects n [] → told.index ≡ Some n → told.object ≡ object
    → IsLinesRefusal object (codes ".text") told.fault → IsFunctionsRefusal objects told
refused_at before all objects n object told inside known same index is why = record {
  at = n;
  index = index;
  inside = inside;
  before = known.more;
  are_before = known.functions;
  object = is ∙ same;
  why = subst (λ o. IsLinesRefusal o (codes ".text") told.fault) (sym is) why;
}

-- behind the words there are no rows
past : (words : List ℕ) (first n : ℕ) → length words / 8 < first → slice_index words (8 * (first + n)) ≡ 0
past words first n behind = get_or_past words (8 * (first + n)) 0 (omega (arith, behind))

no_rows : (plan : Plan) (part : Part) (told : PartLines) (words : List ℕ) (first count : ℕ) → length words / 8 < first
    → rows plan part told words first count ≡ []
no_rows plan part told words first zero behind = refl
no_rows plan part told words first (suc n) behind =
    ap (λ x. built (with_row plan part told words first) n ++ (if x == 0 then [] else row_text plan told (first + n) (said_in plan part told n)))
    (past words first n behind)
    ∙ append-nil (built (with_row plan part told words first) n)
    ∙ no_rows plan part told words first n behind

no_object_rows : (lines : ObjectLines) (words : List ℕ) (first : ℕ) → length words / 8 < first → object_rows lines words first ≡ []
no_object_rows lines words first behind =
    let parts = lines.plan.parts in
    ap (λ (xs : List ℕ). xs ++ rows lines.plan parts.text lines.text words (first + slots_in parts.code) (slots_in parts.text))
    (no_rows lines.plan parts.code lines.code words first (slots_in parts.code) behind)
    ∙ no_rows lines.plan parts.text lines.text words (first + slots_in parts.code) (slots_in parts.text) (omega (arith, behind))

pub no_rows_of_all : (all : List ObjectLines) (words : List ℕ) (first : ℕ) → length words / 8 < first → rows_of_all all words first ≡ []
no_rows_of_all [] words first behind = refl
no_rows_of_all (lines ∷ rest) words first behind =
    ap (λ (xs : List ℕ). xs ++ rows_of_all rest words (first + slots_of lines)) (no_object_rows lines words first behind)
    ∙ no_rows_of_all rest words (first + slots_of lines) (omega (arith, behind))

-- the rows of the first one, and those of the rest
pub rows_are : (all : List ObjectLines) (lines : ObjectLines) (rest : List ObjectLines) (words : List ℕ) (first count : ℕ) → all ≡ lines ∷ rest
    → count ≡ slots_of lines → object_rows lines words first ++ rows_of_all rest words (first + count) ≡ rows_of_all all words first
rows_are all lines rest words first count e c =
    ap (λ n. object_rows lines words first ++ rows_of_all rest words (first + n)) c ∙ sym (ap (λ xs. rows_of_all xs words first) e)

-- so many bytes are the slots of all
few : (bytes own more : ℕ) → bytes < own → false ≡ (bytes == own + more)
few bytes own more less = grind (arith, less)

rest_of : (bytes own more : ℕ) → own ≤ bytes → (bytes - own == more) ≡ (bytes == own + more)
rest_of bytes own more enough = grind (arith, enough)

all_slots : (all : List ObjectLines) (lines : ObjectLines) (rest : List ObjectLines) → all ≡ lines ∷ rest
    → 8 * slots_of lines + 8 * sum_by slots_of rest ≡ 8 * sum_by slots_of all
all_slots all lines rest e =
    let sum = sum_by-cons slots_of lines rest in
    let same = ap (λ xs. sum_by slots_of xs) e in
    omega (arith, sum, same)

pub too_few : (all : List ObjectLines) (lines : ObjectLines) (rest : List ObjectLines) (bytes own : ℕ) → all ≡ lines ∷ rest → own ≡ slots_of lines
    → bytes < 8 * own → false ≡ (bytes == 8 * sum_by slots_of all)
too_few all lines rest bytes own e o less =
    few bytes (8 * own) (8 * sum_by slots_of rest) less
    ∙ ap (λ n. bytes == n) (ap (λ n. 8 * n + 8 * sum_by slots_of rest) o ∙ all_slots all lines rest e)

pub left_over : (all : List ObjectLines) (lines : ObjectLines) (rest : List ObjectLines) (bytes own : ℕ) → all ≡ lines ∷ rest → own ≡ slots_of lines
    → 8 * own ≤ bytes → (bytes - 8 * own == 8 * sum_by slots_of rest) ≡ (bytes == 8 * sum_by slots_of all)
left_over all lines rest bytes own e o enough =
    rest_of bytes (8 * own) (8 * sum_by slots_of rest) enough
    ∙ ap (λ n. bytes == n) (ap (λ n. 8 * n + 8 * sum_by slots_of rest) o ∙ all_slots all lines rest e)
