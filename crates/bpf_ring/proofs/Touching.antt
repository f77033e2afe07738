-- What a move touched, as its entry's text tells it.
use Rattle.std.proofs.Common.{◌≡◌, ◌<◌, ◌≤◌, ◌-◌, ◌^◌, ℕ, Bool, Option, Some, None, List, [], ◌∷◌, ◌++◌, length, drop, refl, sym, ap, subst, ◌∙◌, arith}
use Rattle.std.specs.Prelude.{IfSome, true, nat_eq, slice_index, if◌then◌else◌}
use Rattle.std.proofs.lemmas.List.Elements.{All-head}
use Rattle.byteorder.specs.Endian.{little_bytes}
use Rattle.bpf_entries.specs.declared.entry.Entry.{Entry}
use Rattle.bpf_entries.specs.declared.entry.Entry.TheVariants as entry
use Rattle.bpf_entries.specs.Fields.{FitsFields}
use Rattle.bpf_entries.specs.Keeping.{Kept}
use Rattle.bpf_entries.specs.Past.{Run, replaced}
use Rattle.bpf_entries.specs.Texts.{kind, text}
use Rattle.bpf_steps.proofs.Writing.{run_missed}
use Rattle.bpf_steps.specs.Kept.{Misses, passes}
use Rattle.bpf_steps.specs.declared.run.guard.Guard.{Guard}
use Rattle.bpf_ring.specs.Blocks.{Content}
use Rattle.bpf_ring.specs.Held.{IsHeld}
use Rattle.bpf_ring.specs.Touched.{newest_touched, touched_by}
use Rattle.bpf_ring.specs.declared.counts.Counts.{Counts}
use Rattle.bpf_ring.specs.declared.touched.Touched.{Touched}
use Rattle.bpf_ring.specs.declared.touched.Touched.TheVariants as touched
use Rattle.bpf_ring.proofs.Held.{newest_text}

-- By the kind of the entry, the number of the register that it names, and the address and the length of the run that it keeps.
abbrev pub by_kind : ℕ → ℕ → ℕ × ℕ → Touched
by_kind k n s =
    if nat_eq k 1 then touched.Register n
    else if nat_eq k 3 then touched.Frame s.0 s.1
    else if nat_eq k 5 then touched.Bytes s.0 s.1
    else if nat_eq k 6 then touched.Both n s.0 s.1
    else if nat_eq k 7 then touched.Both 0 s.0 s.1
    else if nat_eq k 8 then touched.Word
    else if nat_eq k 10 then touched.Register n
    else if nat_eq k 11 then touched.Bytes s.0 s.1
    else touched.Nothing

abbrev pub named : Entry → ℕ
named (entry.Register pc r value) = r
named (entry.Fetch pc r value a old) = r
named (entry.EditRegister r value) = r
named _ = 0

abbrev pub IsSpan : Entry → ℕ → ℕ × ℕ → Type 0
IsSpan e d s = IfSome (replaced d e) (λ (run : Run). s ≡ (run.address, length run.bytes))

told : (e : Entry) (d : ℕ) (s : ℕ × ℕ) → IsSpan e d s → by_kind (kind e) (named e) s ≡ touched_by d e
told (entry.Register pc r x) d s is = refl
told (entry.Jump pc) d s is = refl
told (entry.Call pc old) d s is = ap (λ (t : ℕ × ℕ). touched.Frame t.0 t.1) is
told (entry.Return pc saved) d s is = refl
told (entry.Store pc a old) d s is = ap (λ (t : ℕ × ℕ). touched.Bytes t.0 t.1) is
told (entry.Fetch pc r x a old) d s is = ap (λ (t : ℕ × ℕ). touched.Both r t.0 t.1) is
told (entry.Cell pc x a old) d s is = ap (λ (t : ℕ × ℕ). touched.Both 0 t.0 t.1) is
told (entry.Trace pc x) d s is = refl
told entry.End d s is = refl
told (entry.EditRegister r x) d s is = refl
told (entry.EditBytes a old) d s is = ap (λ (t : ℕ × ℕ). touched.Bytes t.0 t.1) is
told (entry.EditPc pc st) d s is = refl

pub told_by : (e : Entry) (d k : ℕ) (s : ℕ × ℕ) → kind e ≡ k → IsSpan e d s → by_kind k (named e) s ≡ touched_by d e
told_by e d k s is span = sym (ap (λ (i : ℕ). by_kind i (named e) s) is) ∙ told e d s span

-- Of one that keeps no run any will do.
abbrev pub span_of : Option Run → ℕ × ℕ
span_of None = (0, 0)
span_of (Some run) = (run.address, length run.bytes)

spans : (o : Option Run) → IfSome o (λ (run : Run). span_of o ≡ (run.address, length run.bytes))
spans None = tt
spans (Some run) = refl

pub told_alone : (e : Entry) (d k : ℕ) → kind e ≡ k → by_kind k (named e) (span_of (replaced d e)) ≡ touched_by d e
told_alone e d k is = told_by e d k (span_of (replaced d e)) is (spans (replaced d e))

-- Entries of other kinds touched nothing.
pub told_none : (e : Entry) (d : ℕ) → (kind e ≡ 1 → ⊥) → (kind e ≡ 3 → ⊥) → (kind e ≡ 5 → ⊥) → (kind e ≡ 6 → ⊥) → (kind e ≡ 7 → ⊥) → (kind e ≡ 8 → ⊥)
    → (kind e ≡ 10 → ⊥) → (kind e ≡ 11 → ⊥) → touched_by d e ≡ touched.Nothing
told_none (entry.Register pc r x) d a b c f g i j l = absurd (a refl)
told_none (entry.Jump pc) d a b c f g i j l = refl
told_none (entry.Call pc old) d a b c f g i j l = absurd (b refl)
told_none (entry.Return pc saved) d a b c f g i j l = refl
told_none (entry.Store pc at old) d a b c f g i j l = absurd (c refl)
told_none (entry.Fetch pc r x at old) d a b c f g i j l = absurd (f refl)
told_none (entry.Cell pc x at old) d a b c f g i j l = absurd (g refl)
told_none (entry.Trace pc x) d a b c f g i j l = absurd (i refl)
told_none entry.End d a b c f g i j l = refl
told_none (entry.EditRegister r x) d a b c f g i j l = absurd (j refl)
told_none (entry.EditBytes at old) d a b c f g i j l = absurd (l refl)
told_none (entry.EditPc pc st) d a b c f g i j l = refl

-- What touched no bytes misses every guard.
abbrev pub IsQuiet : Touched → Type 0
IsQuiet touched.Nothing = Unit {0}
IsQuiet (touched.Register r) = Unit {0}
IsQuiet touched.Word = Unit {0}
IsQuiet _ = ⊥

pub quiet : (guard : Guard) (e : Entry) (t : Touched) → t ≡ touched_by 0 e → IsQuiet t → Misses guard e
quiet guard (entry.Register pc r x) t is q = λ d a from to. tt
quiet guard (entry.Jump pc) t is q = λ d a from to. tt
quiet guard (entry.Call pc old) t is q = absurd (subst IsQuiet is q)
quiet guard (entry.Return pc saved) t is q = λ d a from to. tt
quiet guard (entry.Store pc at old) t is q = absurd (subst IsQuiet is q)
quiet guard (entry.Fetch pc r x at old) t is q = absurd (subst IsQuiet is q)
quiet guard (entry.Cell pc x at old) t is q = absurd (subst IsQuiet is q)
quiet guard (entry.Trace pc x) t is q = λ d a from to. tt
quiet guard entry.End t is q = λ d a from to. tt
quiet guard (entry.EditRegister r x) t is q = λ d a from to. tt
quiet guard (entry.EditBytes at old) t is q = absurd (subst IsQuiet is q)
quiet guard (entry.EditPc pc st) t is q = λ d a from to. tt

-- So does what touched bytes that it lets pass.
abbrev start_of : Touched → ℕ
start_of (touched.Bytes a n) = a
start_of _ = 0

abbrev count_of : Touched → ℕ
count_of (touched.Bytes a n) = n
count_of _ = 0

pub passed_by : (guard : Guard) (e : Entry) (a n : ℕ) → touched.Bytes a n ≡ touched_by 0 e → n ≤ 8 → passes guard a ≡ true → Misses guard e
passed_by guard (entry.Register pc r x) a n is few free = absurd cc
passed_by guard (entry.Jump pc) a n is few free = absurd cc
passed_by guard (entry.Call pc old) a n is few free = absurd cc
passed_by guard (entry.Return pc saved) a n is few free = absurd cc
passed_by guard (entry.Store pc at old) a n is few free =
    let count : n ≡ length old = ap count_of is in
    λ d b from to. run_missed guard at (length old) b (omega (arith, count, few)) (subst (λ (k : ℕ). passes guard k ≡ true) (ap start_of is) free) from to
passed_by guard (entry.Fetch pc r x at old) a n is few free = absurd cc
passed_by guard (entry.Cell pc x at old) a n is few free = absurd cc
passed_by guard (entry.Trace pc x) a n is few free = absurd cc
passed_by guard entry.End a n is few free = absurd cc
passed_by guard (entry.EditRegister r x) a n is few free = absurd cc
passed_by guard (entry.EditBytes at old) a n is few free =
    let count : n ≡ length old = ap count_of is in
    λ d b from to. run_missed guard at (length old) b (omega (arith, count, few)) (subst (λ (k : ℕ). passes guard k ≡ true) (ap start_of is) free) from to
passed_by guard (entry.EditPc pc st) a n is few free = absurd cc

-- Where the number of the register stands: behind the slot, or behind the tag.
abbrev pub NamesAt : ℕ → Entry → List ℕ → Type 0
NamesAt i e bytes = (i < length bytes) × (slice_index bytes i ≡ named e)

pub register_named : (e : Entry) (m : Bool) (bytes : List ℕ) → bytes ≡ text e m → kind e ≡ 1 → NamesAt 5 e bytes
register_named (entry.Register pc r x) m bytes h is = (omega (arith, ap length h), ap (λ l. slice_index l 5) h)
register_named (entry.Jump pc) m bytes h is = absurd (omega (arith, is))
register_named (entry.Call pc old) m bytes h is = absurd (omega (arith, is))
register_named (entry.Return pc saved) m bytes h is = absurd (omega (arith, is))
register_named (entry.Store pc a old) m bytes h is = absurd (omega (arith, is))
register_named (entry.Fetch pc r x a old) m bytes h is = absurd (omega (arith, is))
register_named (entry.Cell pc x a old) m bytes h is = absurd (omega (arith, is))
register_named (entry.Trace pc x) m bytes h is = absurd (omega (arith, is))
register_named entry.End m bytes h is = absurd (omega (arith, is))
register_named (entry.EditRegister r x) m bytes h is = absurd (omega (arith, is))
register_named (entry.EditBytes a old) m bytes h is = absurd (omega (arith, is))
register_named (entry.EditPc pc st) m bytes h is = absurd (omega (arith, is))

pub fetch_named : (e : Entry) (m : Bool) (bytes : List ℕ) → bytes ≡ text e m → kind e ≡ 6 → NamesAt 5 e bytes
fetch_named (entry.Register pc r x) m bytes h is = absurd (omega (arith, is))
fetch_named (entry.Jump pc) m bytes h is = absurd (omega (arith, is))
fetch_named (entry.Call pc old) m bytes h is = absurd (omega (arith, is))
fetch_named (entry.Return pc saved) m bytes h is = absurd (omega (arith, is))
fetch_named (entry.Store pc a old) m bytes h is = absurd (omega (arith, is))
fetch_named (entry.Fetch pc r x a old) m bytes h is = (omega (arith, ap length h), ap (λ l. slice_index l 5) h)
fetch_named (entry.Cell pc x a old) m bytes h is = absurd (omega (arith, is))
fetch_named (entry.Trace pc x) m bytes h is = absurd (omega (arith, is))
fetch_named entry.End m bytes h is = absurd (omega (arith, is))
fetch_named (entry.EditRegister r x) m bytes h is = absurd (omega (arith, is))
fetch_named (entry.EditBytes a old) m bytes h is = absurd (omega (arith, is))
fetch_named (entry.EditPc pc st) m bytes h is = absurd (omega (arith, is))

pub edit_named : (e : Entry) (m : Bool) (bytes : List ℕ) → bytes ≡ text e m → kind e ≡ 10 → NamesAt 3 e bytes
edit_named (entry.Register pc r x) m bytes h is = absurd (omega (arith, is))
edit_named (entry.Jump pc) m bytes h is = absurd (omega (arith, is))
edit_named (entry.Call pc old) m bytes h is = absurd (omega (arith, is))
edit_named (entry.Return pc saved) m bytes h is = absurd (omega (arith, is))
edit_named (entry.Store pc a old) m bytes h is = absurd (omega (arith, is))
edit_named (entry.Fetch pc r x a old) m bytes h is = absurd (omega (arith, is))
edit_named (entry.Cell pc x a old) m bytes h is = absurd (omega (arith, is))
edit_named (entry.Trace pc x) m bytes h is = absurd (omega (arith, is))
edit_named entry.End m bytes h is = absurd (omega (arith, is))
edit_named (entry.EditRegister r x) m bytes h is = (omega (arith, ap length h), ap (λ l. slice_index l 3) h)
edit_named (entry.EditBytes a old) m bytes h is = absurd (omega (arith, is))
edit_named (entry.EditPc pc st) m bytes h is = absurd (omega (arith, is))

-- What the newest entry's text tells.
pub told_newest : (content : Content) (counts : Counts) (there : List ℕ) (d : ℕ) (t : Touched) (ks : List Kept) → IsHeld content counts ks
    → 5 ≤ length there → length there ≤ length content.bytes → there ≡ drop (length content.bytes - length there) content.bytes
    → ((n : ℕ) (before : List ℕ) → n < 2 ^ 16 → content.bytes ≡ before ++ little_bytes 2 n → length there ≡ n)
    → ((e : Entry) (m : Bool) → FitsFields e → there ≡ text e m → t ≡ touched_by d e)
    → Some t ≡ newest_touched d ks
told_newest content counts there d t [] held least within newest len tells = absurd (omega (arith, ap length held.bytes, least, within))
told_newest content counts there d t (k ∷ ks) held least within newest len tells =
    let is = newest_text content counts (length there) (length there) ks k there held len (λ a b. refl) newest in
    ap (λ (u : Touched). Some u) (tells k.0 k.1 (All-head (λ k. FitsFields k.0) k ks held.fit) is.1)
