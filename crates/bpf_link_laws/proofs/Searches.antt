-- Searches in lists that are told element by element.
use Rattle.std.proofs.Common.{◌≡◌, ◌≢◌, ◌<◌, ◌⊎◌, inl, inr, ℕ, zero, suc, ◌+◌, Bool, true, false, List, [], ◌∷◌, length, get_or, refl, ap, subst, ◌∙◌, arith}
use Rattle.std.specs.Prelude.{if◌then◌else◌}
use Rattle.bpf_link.specs.declared.sections.Found.{Found}
use Rattle.bpf_link.specs.declared.sections.Found.TheVariants.{Nothing, Only, Several}
use Rattle.bpf_link.specs.Sections.{found, only, places}

-- no element passes a test
abbrev pub NoneOf : {A : Type 0} → (A → Bool) → List A → A → Type 0
NoneOf test xs d = (i : ℕ) → i < length xs → test (get_or xs i d) ≡ false

-- one does, at an index
pub record OneOf {A : Type 0} (test : A → Bool) (xs : List A) (d : A) (k : ℕ) : Type 0 where
  pub inside : k < length xs
  pub holds : test (get_or xs k d) ≡ true
  pub others : (i : ℕ) → i < length xs → i ≢ k → test (get_or xs i d) ≡ false

head_none : (b : Bool) (i : ℕ) (rest : List ℕ) → (if b then i ∷ rest else rest) ≡ [] → (b ≡ false) × (rest ≡ [])
head_none true i rest e = absurd (clash e)
  where
    clash : i ∷ rest ≡ [] → ⊥
    clash e = cc
head_none false i rest e = (refl, e)

head_one : (b : Bool) (i c : ℕ) (rest : List ℕ) → (if b then i ∷ rest else rest) ≡ c ∷ [] → ((b ≡ true) × (i ≡ c) × (rest ≡ [])) ⊎ ((b ≡ false) × (rest ≡ c ∷ []))
head_one true i c rest e = inl (refl, first e, tail e)
  where
    first : i ∷ rest ≡ c ∷ [] → i ≡ c
    first e = cc

    tail : i ∷ rest ≡ c ∷ [] → rest ≡ []
    tail e = cc
head_one false i c rest e = inr (refl, e)

none_at : {A : Type 0} (test : A → Bool) (s : ℕ) (xs : List A) (d : A) → places test s xs ≡ [] → NoneOf test xs d
none_at test s [] d e i inside = absurd (omega arith)
none_at test s (x ∷ xs) d e zero inside = (head_none (test x) s (places test (suc s) xs) e).0
none_at test s (x ∷ xs) d e (suc i) inside = none_at test (suc s) xs d (head_none (test x) s (places test (suc s) xs) e).1 i (omega arith)

-- the index of the only place
pub record At {A : Type 0} (test : A → Bool) (s : ℕ) (xs : List A) (d : A) (c : ℕ) : Type 0 where
  pub k : ℕ
  pub place : c ≡ s + k
  pub one : OneOf test xs d k

behind : {A : Type 0} (test : A → Bool) (x : A) (xs : List A) (d : A) (k : ℕ) → test x ≡ false → OneOf test xs d k → OneOf test (x ∷ xs) d (suc k)
behind test x xs d k fails one = record { inside = let h = one.inside in omega arith; holds = one.holds; others = others }
  where
    others : (i : ℕ) → i < length (x ∷ xs) → i ≢ suc k → test (get_or (x ∷ xs) i d) ≡ false
    others zero inside apart = fails
    others (suc i) inside apart = one.others i (omega arith) (omega arith)

first_one : {A : Type 0} (test : A → Bool) (x : A) (xs : List A) (d : A) → test x ≡ true → NoneOf test xs d → OneOf test (x ∷ xs) d 0
first_one test x xs d passes none = record { inside = omega arith; holds = passes; others = others }
  where
    others : (i : ℕ) → i < length (x ∷ xs) → i ≢ 0 → test (get_or (x ∷ xs) i d) ≡ false
    others zero inside apart = absurd (apart refl)
    others (suc i) inside apart = none i (omega arith)

one_at : {A : Type 0} (test : A → Bool) (s : ℕ) (xs : List A) (d : A) (c : ℕ) → places test s xs ≡ c ∷ [] → At test s xs d c
one_at test s [] d c e = absurd (clash e)
  where
    clash : ◌≡◌ {A = List ℕ} [] (c ∷ []) → ⊥
    clash e = cc
one_at test s (x ∷ xs) d c e = by (head_one (test x) s c (places test (suc s) xs) e) (one_at test (suc s) xs d c)
  where
    by : ((test x ≡ true) × (s ≡ c) × (places test (suc s) xs ≡ [])) ⊎ ((test x ≡ false) × (places test (suc s) xs ≡ c ∷ []))
        → (places test (suc s) xs ≡ c ∷ [] → At test (suc s) xs d c) → At test s (x ∷ xs) d c
    by (inl h) more =
        let here : c ≡ s + 0 = omega (arith, h.1) in
        record { k = 0; place = here; one = first_one test x xs d h.0 (none_at test (suc s) xs d h.2) }
    by (inr h) more =
        let rest = more h.1 in
        let there : c ≡ s + suc rest.k = omega (arith, rest.place) in
        record { k = suc rest.k; place = there; one = behind test x xs d rest.k h.0 rest.one }

only_one : (ps : List ℕ) (c : ℕ) → only ps ≡ Only c → ps ≡ c ∷ []
only_one [] c e = absurd (clash e)
  where
    clash : ◌≡◌ {A = Found} Nothing (Only c) → ⊥
    clash e = cc
only_one (i ∷ []) c e = ap (λ k. k ∷ []) (same e)
  where
    same : Only i ≡ Only c → i ≡ c
    same e = cc
only_one (i ∷ (j ∷ more)) c e = absurd (clash e)
  where
    clash : ◌≡◌ {A = Found} Several (Only c) → ⊥
    clash e = cc

only_none : (ps : List ℕ) → only ps ≡ Nothing → ps ≡ []
only_none [] e = refl
only_none (i ∷ []) e = absurd (clash e)
  where
    clash : ◌≡◌ {A = Found} (Only i) Nothing → ⊥
    clash e = cc
only_none (i ∷ (j ∷ more)) e = absurd (clash e)
  where
    clash : ◌≡◌ {A = Found} Several Nothing → ⊥
    clash e = cc

pub is_one : {A : Type 0} (test : A → Bool) (xs : List A) (d : A) (c : ℕ) → found test xs ≡ Only c → OneOf test xs d c
is_one test xs d c e = by (one_at test 0 xs d c (only_one (places test 0 xs) c e))
  where
    by : At test 0 xs d c → OneOf test xs d c
    by at = let same : at.k ≡ c = omega (arith, at.place) in subst (OneOf test xs d) same at.one

pub is_none : {A : Type 0} (test : A → Bool) (xs : List A) (d : A) → found test xs ≡ Nothing → NoneOf test xs d
is_none test xs d e = none_at test 0 xs d (only_none (places test 0 xs) e)

-- and back
no_places : {A : Type 0} (test : A → Bool) (s : ℕ) (xs : List A) (d : A) → NoneOf test xs d → places test s xs ≡ []
no_places test s [] d none = refl
no_places test s (x ∷ xs) d none =
    ap (λ b. if b then s ∷ places test (suc s) xs else places test (suc s) xs) (none 0 (omega arith))
    ∙ no_places test (suc s) xs d (λ i inside. none (suc i) (omega arith))

one_place : {A : Type 0} (test : A → Bool) (s : ℕ) (xs : List A) (d : A) (k : ℕ) → OneOf test xs d k → places test s xs ≡ (s + k) ∷ []
one_place test s [] d k one = let h = one.inside in absurd (omega arith)
one_place test s (x ∷ xs) d zero one =
    ap (λ b. if b then s ∷ places test (suc s) xs else places test (suc s) xs) one.holds
    ∙ ap (λ ps. s ∷ ps) (no_places test (suc s) xs d (λ i inside. one.others (suc i) (omega arith) (omega arith)))
    ∙ ap (λ c. c ∷ []) (omega arith)
one_place test s (x ∷ xs) d (suc k) one =
    ap (λ b. if b then s ∷ places test (suc s) xs else places test (suc s) xs) (one.others 0 (omega arith) (omega arith))
    ∙ one_place test (suc s) xs d k (record { inside = let h = one.inside in omega arith; holds = one.holds; others = λ i inside apart. one.others (suc i) (omega arith) (omega arith) })
    ∙ ap (λ c. c ∷ []) (omega arith)

pub one_found : {A : Type 0} (test : A → Bool) (xs : List A) (d : A) (c : ℕ) → OneOf test xs d c → found test xs ≡ Only c
one_found test xs d c one = ap only (one_place test 0 xs d c one) ∙ ap Only (omega arith)

pub none_found : {A : Type 0} (test : A → Bool) (xs : List A) (d : A) → NoneOf test xs d → found test xs ≡ Nothing
none_found test xs d none = ap only (no_places test 0 xs d none)
