-- A reader or a writer whose reads and failures are counted. bpfdb's own choice.
use Rattle.std.specs.Prelude.{ℕ, ◌≡◌, ◌+◌, ◌-◌, ◌^◌, ◌<◌, min, length, List, nat_lt, ◌==◌, ◌&&◌, if◌then◌else◌, Result, Ok, Err, IsErr, OnOk}

-- What is known of a `Counted`: the reader or writer inside, its failures, and how many reads were passed on.
pub record Tally (T : Type 0) : Type 0 where
  pub inner : T
  pub failures : ℕ
  pub reads : ℕ

-- The last value of a count.
abbrev pub last_count : ℕ
last_count = 2 ^ 64 - 1

-- One more, where the count isn't at its last value.
abbrev pub one_more : ℕ → ℕ
one_more n = min (n + 1) last_count

-- The failures after a read or a flush: an error is one more.
abbrev pub failures_after : {A E : Type 0} → Result A E → ℕ → ℕ
failures_after (Ok value) n = n
failures_after (Err fault) n = one_more n

-- The failures after a write of a piece: also one that took no byte, of a piece that isn't empty, is one more.
abbrev pub failures_after_write : {E : Type 0} → Result ℕ E → List ℕ → ℕ → ℕ
failures_after_write (Ok count) piece n = if (count == 0) && nat_lt 0 (length piece) then one_more n else n
failures_after_write (Err fault) piece n = one_more n

-- After the last count of reads each further one is refused, and isn't passed on.
pub record CountsRead {T A E : Type 0} (old new : Tally T) (result : Result A E) : Type 0 where
  pub failures : new.failures ≡ failures_after result old.failures
  pub reads : new.reads ≡ one_more old.reads
  pub passed : OnOk result (old.reads < last_count)
  pub refused : old.reads ≡ last_count → (new.inner ≡ old.inner) × IsErr result
