-- Bytes of a joined object are put together piece by piece.
use native.Mathlib.Numerals.{unary_clauses}
use Rattle.std.proofs.Common.{◌≡◌, ◌<◌, ◌+◌, ℕ, Bool, true, false, List, ◌++◌, ◌/◌, length, if◌then◌else◌, ap, sym, subst, ◌∙◌, add-one, arith}
use Rattle.std.proofs.lemmas.List.{append_assoc}
use Rattle.std.specs.Prelude.{◌||◌, Option, Some, IfSome}
use Rattle.bpf_btf.specs.Maps.{last_below}
use Rattle.bpf_link.specs.Links.{unlinked}
use Rattle.bpf_link.specs.declared.plan.Plan.{Plan}
use Rattle.bpf_join.specs.Codes.{called_below, joined_code, own_slots}
use Rattle.bpf_join.specs.Functions.{callees}
use Rattle.bpf_join.specs.Joined.{body, has_types, joined_bytes, parts, section_count}
use Rattle.bpf_join.specs.Records.{HasRecords}
use Rattle.bpf_join.specs.Symbols.{with_u16}
use Rattle.bpf_join.specs.declared.places.Places.{Places}
use Rattle.bpf_link.specs.Images.{with_u64}
use Rattle.bpf_link.specs.Objects.{Elf, section_at}
use Rattle.bpf_link.specs.declared.layout.SectionHeader.{SectionHeader}
use Rattle.bpf_join.specs.Gathered.{gathered}
use Rattle.bpf_join.specs.Tables.{headers, points, points_below}

-- One more number that is looked at.
pub last_more : (test : ℕ → Bool) (i : ℕ) (holds : Bool) (old new : Option ℕ) → new ≡ (if holds then Some i else old) → holds ≡ test i → old ≡ last_below test i → new ≡ last_below test (i + 1)
last_more test i holds old new told same before =
    simp unary_clauses (told ∙ (ap (λ b. if b then Some i else old) same ∙ ap (λ f. if test i then Some i else f) before))

some_of : (n i : ℕ) (holds : Bool) (old : Option ℕ) → i < n → IfSome old (λ k. k < n) → IfSome (if holds then Some i else old) (λ k. k < n)
some_of n i true old inside before = inside
some_of n i false old inside before = before

pub last_inside : (n i : ℕ) (holds : Bool) (old new : Option ℕ) → new ≡ (if holds then Some i else old) → i < n → IfSome old (λ k. k < n) → IfSome new (λ k. k < n)
last_inside n i holds old new told inside before = rw told (some_of n i holds old inside before)

-- One more piece.
pub gathered_more : (f : ℕ → List ℕ) (i : ℕ) (start old piece new : List ℕ) → new ≡ old ++ piece → piece ≡ f i → old ≡ start ++ gathered f i → new ≡ start ++ gathered f (i + 1)
gathered_more f i start old piece new told same before =
    simp unary_clauses (told ∙ (ap (λ p. old ++ p) same ∙ (ap (λ o. o ++ f i) before ∙ append_assoc start (gathered f i) (f i))))

-- All pieces for the entries of a table.
pub gathered_all : (f : List ℕ → ℕ → List ℕ) (width i : ℕ) (start table other all : List ℕ) → table ≡ other → i ≡ length table / width → all ≡ start ++ gathered (f table) i
    → all ≡ start ++ gathered (f other) (length other / width)
gathered_all f width i start table other all same end before =
    before ∙ (ap (λ n. start ++ gathered (f table) n) end ∙ ap (λ t. start ++ gathered (f t) (length t / width)) same)

-- Four pieces, one behind another.
pub four_pieces : (start a b c d one two three all : List ℕ) → one ≡ start ++ a → two ≡ one ++ b → three ≡ two ++ c → all ≡ three ++ d → all ≡ start ++ (a ++ (b ++ (c ++ d)))
four_pieces start a b c d one two three all first second third last =
    last ∙ (ap (λ x. x ++ d) third ∙ (append_assoc two c d ∙ (ap (λ x. x ++ (c ++ d)) second ∙ (append_assoc one b (c ++ d)
    ∙ (ap (λ x. x ++ (b ++ (c ++ d))) first ∙ append_assoc start a (b ++ (c ++ d)))))))

-- One more section that is looked at.
points_step : (object : Elf) (i : ℕ) → points_below object (i + 1) ≡ (points object (section_at object i) || points_below object i)
points_step object i = ap (points_below object) (add-one i)

pub points_more : (object : Elf) (i : ℕ) (it : SectionHeader) (one old new : Bool) → new ≡ (one || old) → one ≡ points object it → it ≡ section_at object i → old ≡ points_below object i
    → new ≡ points_below object (i + 1)
points_more object i it one old new told here same before =
    told ∙ (ap (λ a. a || old) (here ∙ ap (points object) same) ∙ (ap (λ b. points object (section_at object i) || b) before ∙ sym (points_step object i)))

-- A file whose parts, table and header are put together.
pub file_is : (first second : Plan) (table : ℕ) (places records : List ℕ) (at : Places) (count : ℕ) (bytes all headed new : List ℕ) → bytes ≡ body first second places records
    → at ≡ parts first second places records → all ≡ bytes ++ headers first second table at → headed ≡ with_u64 all 40 at.end → new ≡ with_u16 headed 60 count → count ≡ section_count first second
    → new ≡ joined_bytes first second table places records
file_is first second table places records at count bytes all headed new made placed told set last counted =
    last ∙ (ap (λ n. with_u16 headed 60 n) counted ∙ (ap (λ h. with_u16 h 60 (section_count first second)) set
    ∙ (ap (λ a. with_u16 (with_u64 a 40 at.end) 60 (section_count first second)) told
    ∙ (ap (λ b. with_u16 (with_u64 (b ++ headers first second table at) 40 at.end) 60 (section_count first second)) made
    ∙ ap (λ p. with_u16 (with_u64 (body first second places records ++ headers first second table p) 40 p.end) 60 (section_count first second)) placed))))

pub count_is : (a b own more : ℕ) → a ≡ own → b ≡ more → a + b + 2 ≡ own + more + 1 + 1
count_is a b own more first second = omega (arith, first, second)

-- What is told of maps at places, which are given twice.
pub told_at : (first : Plan) (places one other records : List ℕ) (types : Bool) → one ≡ places → other ≡ places → types ≡ has_types first one → HasRecords types first other records
    → HasRecords (has_types first places) first places records
told_at first places one other records types same again typed told =
    subst (λ b. HasRecords b first places records) (typed ∙ ap (has_types first) same) (subst (λ p. HasRecords types first p records) again told)

-- The code of a joined object.
pub joined_is : (first second : Plan) (own : ℕ) (slots code all : List ℕ) → own ≡ own_slots first → slots ≡ unlinked first.parts → code ≡ called_below (callees second) own slots own
    → all ≡ code ++ second.parts.code.slots → all ≡ joined_code first second
joined_is first second own slots code all size begun made whole =
    whole ∙ ap (λ c. c ++ second.parts.code.slots)
    (made ∙ (ap (λ o. called_below (callees second) o slots o) size ∙ ap (λ s. called_below (callees second) (own_slots first) s (own_slots first)) begun))
