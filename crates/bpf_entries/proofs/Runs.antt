-- The run that an entry's move replaced and the depth before it, as the entry's text tells them.
use Rattle.std.proofs.Common.{◌≡◌, ◌+◌, ◌-◌, ℕ, Bool, List, length, refl, sym, ap, subst, ◌∙◌}
use Rattle.std.specs.Prelude.{None, if◌then◌else◌, nat_eq}
use Rattle.bpf_entries.specs.declared.entry.Entry.{Entry}
use Rattle.bpf_entries.specs.declared.entry.Entry.TheVariants as entry
use Rattle.bpf_entries.specs.Before.{depth_before}
use Rattle.bpf_entries.specs.Fields.{FitsFields}
use Rattle.bpf_entries.specs.Past.{replaced}
use Rattle.bpf_entries.specs.Reading.{entry_of}
use Rattle.bpf_entries.specs.Texts.{text, kind}
use Rattle.bpf_entries.specs.Weights.{weight}
use Rattle.bpf_entries.proofs.Texts.{length-text, read_whole}

-- What the bytes of a text are read as by its kind weighs as many as there are, and replaced what the entry's move did.
pub run_back : (e : Entry) (m : Bool) (k d : ℕ) (bytes : List ℕ) → FitsFields e → bytes ≡ text e m → k ≡ kind e
    → (length bytes ≡ weight (entry_of k (length bytes) bytes)) × (replaced d (entry_of k (length bytes) bytes) ≡ replaced d e)
run_back e m k d bytes a h q =
    let is : entry_of k (length bytes) bytes ≡ e = read_whole e m k bytes a h q in
    (ap length h ∙ length-text e m a ∙ ap weight (sym is), ap (replaced d) is)

-- It fits its fields.
pub fits_back : (e : Entry) (m : Bool) (k : ℕ) (bytes : List ℕ) → FitsFields e → bytes ≡ text e m → k ≡ kind e → FitsFields (entry_of k (length bytes) bytes)
fits_back e m k bytes a h q = subst FitsFields (sym (read_whole e m k bytes a h q)) a

-- Entries of other kinds left memory as it was.
pub no_run : (e : Entry) (d : ℕ) → (kind e ≡ 3 → ⊥) → (kind e ≡ 5 → ⊥) → (kind e ≡ 6 → ⊥) → (kind e ≡ 7 → ⊥) → (kind e ≡ 11 → ⊥) → replaced d e ≡ None
no_run (entry.Register pc r x) d l s f c b = refl
no_run (entry.Jump pc) d l s f c b = refl
no_run (entry.Call pc old) d l s f c b = absurd (l refl)
no_run (entry.Return pc saved) d l s f c b = refl
no_run (entry.Store pc a old) d l s f c b = absurd (s refl)
no_run (entry.Fetch pc r x a old) d l s f c b = absurd (f refl)
no_run (entry.Cell pc x a old) d l s f c b = absurd (c refl)
no_run (entry.Trace pc x) d l s f c b = refl
no_run entry.End d l s f c b = refl
no_run (entry.EditRegister r x) d l s f c b = refl
no_run (entry.EditBytes a old) d l s f c b = absurd (b refl)
no_run (entry.EditPc pc st) d l s f c b = refl

-- The depth before a move, by the kind of its entry.
abbrev pub depth_by_kind : ℕ → ℕ → ℕ
depth_by_kind d k = if nat_eq k 3 then d - 1 else if nat_eq k 4 then d + 1 else d

pub depth_told : (e : Entry) (d : ℕ) → depth_before d e ≡ depth_by_kind d (kind e)
depth_told (entry.Register pc r x) d = refl
depth_told (entry.Jump pc) d = refl
depth_told (entry.Call pc old) d = refl
depth_told (entry.Return pc saved) d = refl
depth_told (entry.Store pc a old) d = refl
depth_told (entry.Fetch pc r x a old) d = refl
depth_told (entry.Cell pc x a old) d = refl
depth_told (entry.Trace pc x) d = refl
depth_told entry.End d = refl
depth_told (entry.EditRegister r x) d = refl
depth_told (entry.EditBytes a old) d = refl
depth_told (entry.EditPc pc st) d = refl
