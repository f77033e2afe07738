-- The tests of a file, and the faults of its sections.
use Rattle.std.proofs.Common.{ℕ, ◌≡◌, ◌<◌, ◌+◌, true, false, List, [], ◌∷◌, ◌++◌, append_assoc, drop, length, get_or, refl, sym, ap, ◌∙◌, arith}
use Rattle.std.proofs.lemmas.List.{drop_more}
use Rattle.bpf_suite.specs.Faults.{fault_at, first_fault, or_next, same_test}
use Rattle.bpf_suite.specs.Files.{begins_name, named, or_alone, or_none, own_of, tests, until_name, with_shared}
use Rattle.bpf_suite.specs.Kinds.{is_name}
use Rattle.bpf_suite.specs.declared.section.Section.{Section}

-- a name begins a test, and another section doesn't
named-yes : (sections : List Section) → begins_name sections ≡ true → named sections ≡ own_of sections ∷ named (drop 1 sections)
named-yes [] e = cc
named-yes (section ∷ more) e = let here : is_name section.kind ≡ true = e in rw here refl

named-no : (sections : List Section) → begins_name sections ≡ false → named sections ≡ named (drop 1 sections)
named-no [] e = refl
named-no (section ∷ more) e = let here : is_name section.kind ≡ false = e in rw here refl

pub found-yes : (found : List (List Section)) (sections own : List Section) → begins_name sections ≡ true → own ≡ own_of sections
    → (found ++ own ∷ []) ++ named (drop 1 sections) ≡ found ++ named sections
found-yes found sections own e same =
    append_assoc found (own ∷ []) (named (drop 1 sections))
    ∙ ap (λ o. found ++ o ∷ named (drop 1 sections)) same
    ∙ ap (λ t. found ++ t) (sym (named-yes sections e))

pub found-no : (found : List (List Section)) (sections : List Section) → begins_name sections ≡ false
    → found ++ named (drop 1 sections) ≡ found ++ named sections
found-no found sections e = ap (λ n. found ++ n) (sym (named-no sections e))

-- sections from a place on, without the first
pub drop-one : {X : Type 0} (xs : List X) (at : ℕ) (d : X) → at < length xs → drop 1 (drop at xs) ≡ drop (at + 1) xs
drop-one xs at d h = ap (drop 1) (drop_more xs at d h)

-- a file without names is one test
pub or_alone-none : (shared own : List Section) (found tests : List (List Section)) → found ≡ tests → length found ≡ 0 → own ≡ []
    → with_shared shared (found ++ own ∷ []) ≡ or_alone shared tests
or_alone-none shared own found [] e none nothing = rw (e, nothing) refl
or_alone-none shared own found (test ∷ tests) e none nothing = absurd (let long = ap length e in omega (arith, none, long))

pub or_alone-some : (shared : List Section) (found tests : List (List Section)) → found ≡ tests → 0 < length found
    → with_shared shared found ≡ or_alone shared tests
or_alone-some shared found [] e some = absurd (let long = ap length e in omega (arith, some, long))
or_alone-some shared found (test ∷ tests) e some = ap (with_shared shared) e

-- a file has a test
or_alone-long : (shared : List Section) (found : List (List Section)) → 0 < length (or_alone shared found)
or_alone-long shared [] = omega arith
or_alone-long shared (test ∷ more) = omega arith

pub tests-some : (s : List Section) → 0 < length (tests s)
tests-some s = or_alone-long (until_name s) (named s)

-- the first fault from a section on
pub first_fault-at : (shared earlier earlier' sections : List Section) (at : ℕ) (d : Section) → at < length sections
    → earlier' ≡ same_test earlier (get_or sections at d)
    → first_fault shared earlier (drop at sections)
    ≡ or_next (fault_at shared earlier' (drop at sections)) (first_fault shared (earlier' ++ get_or sections at d ∷ []) (drop (at + 1) sections))
first_fault-at shared earlier earlier' sections at d h e =
    let more = drop_more sections at d h in
    rw (more, e) refl

-- or its own sections are none
pub or_none-none : (own : List Section) (found tests : List (List Section)) → found ≡ tests → length found ≡ 0 → own ≡ [] → found ++ own ∷ [] ≡ or_none tests
or_none-none own found [] e none nothing = rw (e, nothing) refl
or_none-none own found (test ∷ tests) e none nothing = absurd (let long = ap length e in omega (arith, none, long))

pub or_none-some : (found tests : List (List Section)) → found ≡ tests → 0 < length found → found ≡ or_none tests
or_none-some found [] e some = absurd (let long = ap length e in omega (arith, some, long))
or_none-some found (test ∷ tests) e some = e
