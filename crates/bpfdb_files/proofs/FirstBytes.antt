-- What is read of a file, by its kind.
use Rattle.std.proofs.Common.{◌≡◌, ◌∙◌, ◌<◌, ◌+◌, ◌-◌, ℕ, zero, suc, List, [], ◌++◌, Option, Some, None, length, take, sym, ap, arith}
use Rattle.std.proofs.Math.Seq.{take-append-add}
use Rattle.std.proofs.lemmas.List.{append-nil}
use Rattle.counted_io.specs.Counted.{Tally}
use Rattle.bpfdb_files.specs.Reading.{ReadsKind, TakesFirst, any_bytes, context_bytes, program_bytes}
use Rattle.bpfdb_files.specs.declared.kinds.FileKind.TheVariants.{Any, Context, Program}

none_some : {A : Type 0} {x : A} → None ≡ Some x → ⊥
none_some e = cc

some_same : {A : Type 0} {x y : A} → Some x ≡ Some y → x ≡ y
some_same e = cc

-- So many first bytes, where the others begin with none if more are asked for.
first_of : (k : ℕ) (bytes rest : List ℕ) → (0 < k → rest ≡ []) → take (length bytes + k) (bytes ++ rest) ≡ bytes
first_of zero bytes rest end = take-append-add bytes rest zero ∙ append-nil bytes
first_of (suc k) bytes rest end =
    take-append-add bytes rest (suc k) ∙ ap (λ (r : List ℕ). bytes ++ take (suc k) r) (end (omega arith)) ∙ append-nil bytes

-- The first bytes of what is known are those that were taken.
pub first_taken : (most : ℕ) (old new : Option (List ℕ)) (bytes : List ℕ) → TakesFirst most old new bytes → (all : List ℕ) → old ≡ Some all
    → take most all ≡ bytes
first_taken most None new bytes takes all is = absurd (none_some is)
first_taken most (Some held) None bytes takes all is = absurd takes.taken
first_taken most (Some held) (Some rest) bytes takes all is =
    let parts : all ≡ bytes ++ rest = sym (some_same is) ∙ takes.taken in
    let many : most ≡ length bytes + (most - length bytes) = let bound = takes.bound in omega arith in
    ap (λ (m : ℕ). take m all) many ∙ ap (take (length bytes + (most - length bytes))) parts
    ∙ first_of (most - length bytes) bytes rest (λ more. takes.end (omega arith))

-- A file is read as a program, as what may be one or a source, or as a context.
pub program_read : {R : Type 0} (remaining : R → Option (List ℕ)) (old new : Tally R) (bytes : List ℕ)
    → TakesFirst program_bytes (remaining old.inner) (remaining new.inner) bytes → new.failures ≡ old.failures
    → ReadsKind remaining Program old new (Some bytes)
program_read remaining old new bytes takes same = record {
  gives = λ all is. ap Some (first_taken program_bytes (remaining old.inner) (remaining new.inner) bytes takes all is);
  takes = (takes.taken, takes.bound);
  same = same;
}

pub any_read : {R : Type 0} (remaining : R → Option (List ℕ)) (old new : Tally R) (bytes : List ℕ)
    → TakesFirst any_bytes (remaining old.inner) (remaining new.inner) bytes → new.failures ≡ old.failures
    → ReadsKind remaining Any old new (Some bytes)
any_read remaining old new bytes takes same = record {
  gives = λ all is. ap Some (first_taken any_bytes (remaining old.inner) (remaining new.inner) bytes takes all is);
  takes = (takes.taken, takes.bound);
  same = same;
}

pub context_read : {R : Type 0} (remaining : R → Option (List ℕ)) (old new : Tally R) (bytes : List ℕ)
    → TakesFirst context_bytes (remaining old.inner) (remaining new.inner) bytes → new.failures ≡ old.failures
    → ReadsKind remaining Context old new (Some bytes)
context_read remaining old new bytes takes same = record {
  gives = λ all is. ap Some (first_taken context_bytes (remaining old.inner) (remaining new.inner) bytes takes all is);
  takes = (takes.taken, takes.bound);
  same = same;
}
