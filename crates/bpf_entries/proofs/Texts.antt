-- A text is of one entry alone: what its bytes are read as is that entry.
use Rattle.std.proofs.Common.{◌≡◌, ℕ, ◌+◌, ◌-◌, ◌%◌, ◌^◌, ◌≤◌, ◌<◌, Bool, true, false, List, [], ◌∷◌, ◌++◌, length, take, drop, refl, sym, ap, ◌∙◌, subst, arith}
use Rattle.std.specs.Prelude.{slice_index, nat_le, Option, Some}
use Rattle.std.proofs.lemmas.List.{take_at, length-append}
use Rattle.std.proofs.lemmas.Bool.Decides.{nat_tests}
use Rattle.byteorder.specs.Endian.{little_bytes, little_number}
use Rattle.byteorder.specs.Numbers.{little_number-reads_back}
use Rattle.bpf_entries.specs.declared.entry.Entry.{Entry}
use Rattle.bpf_entries.specs.declared.entry.Entry.TheVariants as entry
use Rattle.bpf_entries.specs.declared.status.Fault.TheVariants.{Access, Token, Depth}
use Rattle.bpf_entries.specs.declared.status.Status.{Status}
use Rattle.bpf_entries.specs.declared.status.Status.TheVariants.{Running, Exited, Faulted}
use Rattle.bpf_entries.specs.Status.{FitsStatus}
use Rattle.bpf_entries.specs.Fields.{FitsFields}
use Rattle.bpf_entries.specs.Past.{is_of_step}
use Rattle.bpf_entries.specs.Frames.{frame_len}
use Rattle.bpf_entries.specs.Weights.{weight, greatest_weight}
use Rattle.bpf_entries.specs.Reading.{slot_at, number_at, run_at, status_of, entry_of, ReadsAs}
use Rattle.bpf_entries.specs.Texts.{text, tag, kind, status_text}

-- A number's bytes are read as the number.
read2 : (x : ℕ) (s : List ℕ) → x < 2 ^ 16 → little_number 2 (little_bytes 2 x ++ s) ≡ x
read2 x s a = little_number-reads_back 2 x s (omega (arith, a))

read8 : (x : ℕ) (s : List ℕ) → x < 2 ^ 64 → little_number 8 (little_bytes 8 x ++ s) ≡ x
read8 x s a = little_number-reads_back 8 x s (omega (arith, a))

run_back : (n : ℕ) (old s : List ℕ) → n ≡ length old → take n (old ++ s) ≡ old
run_back n old s e = take_at old s n (sym e)

read_status : (st : Status) (s : List ℕ) → FitsStatus st → status_of (slice_index (status_text st ++ s) 0) (little_number 8 (drop 1 (status_text st ++ s))) ≡ st
read_status Running s a = refl
read_status Exited s a = refl
read_status (Faulted (Access n)) s a = ap (λ x. Faulted (Access x)) (read8 n s a)
read_status (Faulted (Token n)) s a = ap (λ x. Faulted (Token x)) (read8 n s a)
read_status (Faulted Depth) s a = refl

-- An entry's bytes are read as the entry.
pub read_entry : (e : Entry) (m : Bool) → FitsFields e → entry_of (kind e) (weight e) (text e m) ≡ e
read_entry (entry.Register pc r x) m a =
    ap (λ p. entry.Register p r (number_at 6 (text (entry.Register pc r x) m))) (read2 pc (drop 5 (text (entry.Register pc r x) m)) a.0)
    ∙ ap (λ n. entry.Register pc r n) (read8 x (drop 14 (text (entry.Register pc r x) m)) a.2)
read_entry (entry.Jump pc) m a = ap entry.Jump (read2 pc (drop 5 (text (entry.Jump pc) m)) a)
read_entry (entry.Call pc old) m a =
    let b = text (entry.Call pc old) m in
    let at : slot_at 3 b ≡ pc = read2 pc (drop 5 b) a.0 in
    let bytes : run_at 5 frame_len b ≡ old = run_back frame_len old _ (sym a.1.0) in
    cc
read_entry (entry.Return pc []) m a = absurd (omega (arith, a.1))
read_entry (entry.Return pc (p ∷ [])) m a = absurd (omega (arith, a.1))
read_entry (entry.Return pc (p ∷ q ∷ [])) m a = absurd (omega (arith, a.1))
read_entry (entry.Return pc (p ∷ q ∷ r ∷ [])) m a = absurd (omega (arith, a.1))
read_entry (entry.Return pc (p ∷ q ∷ r ∷ s ∷ [])) m a =
    let b = text (entry.Return pc (p ∷ q ∷ r ∷ s ∷ [])) m in
    let at : slot_at 3 b ≡ pc = read2 pc (drop 5 b) a.0 in
    let one : number_at 5 b ≡ p = read8 p (drop 13 b) (a.2 0 p (omega arith)) in
    let two : number_at 13 b ≡ q = read8 q (drop 21 b) (a.2 1 q (omega arith)) in
    let three : number_at 21 b ≡ r = read8 r (drop 29 b) (a.2 2 r (omega arith)) in
    let four : number_at 29 b ≡ s = read8 s (drop 37 b) (a.2 3 s (omega arith)) in
    cc
read_entry (entry.Return pc (p ∷ q ∷ r ∷ s ∷ t ∷ ts)) m a = absurd (omega (arith, a.1))
read_entry (entry.Store pc c old) m a =
    let b = text (entry.Store pc c old) m in
    let at : slot_at 3 b ≡ pc = read2 pc (drop 5 b) a.0 in
    let address : number_at 5 b ≡ c = read8 c (drop 13 b) a.1 in
    let bytes : run_at 14 (length old) b ≡ old = run_back (length old) old _ refl in
    cc
read_entry (entry.Fetch pc r x c old) m a =
    let b = text (entry.Fetch pc r x c old) m in
    let at : slot_at 3 b ≡ pc = read2 pc (drop 5 b) a.0 in
    let value : number_at 6 b ≡ x = read8 x (drop 14 b) a.2 in
    let address : number_at 14 b ≡ c = read8 c (drop 22 b) a.3 in
    let bytes : run_at 23 (length old) b ≡ old = run_back (length old) old _ refl in
    cc
read_entry (entry.Cell pc x c old) m a =
    let b = text (entry.Cell pc x c old) m in
    let at : slot_at 3 b ≡ pc = read2 pc (drop 5 b) a.0 in
    let value : number_at 5 b ≡ x = read8 x (drop 13 b) a.1 in
    let address : number_at 13 b ≡ c = read8 c (drop 21 b) a.2 in
    let bytes : run_at 21 (weight (entry.Cell pc x c old) - 23) b ≡ old = run_back (weight (entry.Cell pc x c old) - 23) old _ (omega arith) in
    cc
read_entry (entry.Trace pc x) m a =
    let b = text (entry.Trace pc x) m in
    let at : slot_at 3 b ≡ pc = read2 pc (drop 5 b) a.0 in
    let value : number_at 5 b ≡ x = read8 x (drop 13 b) a.1 in
    cc
read_entry entry.End m a = refl
read_entry (entry.EditRegister r x) m a = ap (λ n. entry.EditRegister r n) (read8 x (drop 12 (text (entry.EditRegister r x) m)) a.1)
read_entry (entry.EditBytes c old) m a =
    let b = text (entry.EditBytes c old) m in
    let address : number_at 3 b ≡ c = read8 c (drop 11 b) a.0 in
    let bytes : run_at 11 (weight (entry.EditBytes c old) - 13) b ≡ old = run_back (weight (entry.EditBytes c old) - 13) old _ (omega arith) in
    cc
read_entry (entry.EditPc pc st) m a =
    let b = text (entry.EditPc pc st) m in
    let at : slot_at 3 b ≡ pc = read2 pc (drop 5 b) a.0 in
    let status : status_of (slice_index b 5) (number_at 6 b) ≡ st = read_status st (little_bytes 2 16) a.1 in
    ap (λ p. entry.EditPc p (status_of (slice_index b 5) (number_at 6 b))) at ∙ ap (λ s. entry.EditPc pc s) status

-- Numbers with the same bytes, whatever follows, are the same.
number_of : (n x y : ℕ) (s t : List ℕ) → x < 256 ^ n → y < 256 ^ n → little_bytes n x ++ s ≡ little_bytes n y ++ t → x ≡ y
number_of n x y s t a b e = sym (little_number-reads_back n x s a) ∙ ap (little_number n) e ∙ little_number-reads_back n y t b

-- An entry weighs as many bytes as its text has.
pub length-text : (e : Entry) (m : Bool) → FitsFields e → length (text e m) ≡ weight e
length-text (entry.Register pc r x) m a = refl
length-text (entry.Jump pc) m a = refl
length-text (entry.Call pc old) m a = grind (arith, length-append)
length-text (entry.Return pc []) m a = absurd (omega (arith, a.1))
length-text (entry.Return pc (p ∷ [])) m a = absurd (omega (arith, a.1))
length-text (entry.Return pc (p ∷ q ∷ [])) m a = absurd (omega (arith, a.1))
length-text (entry.Return pc (p ∷ q ∷ r ∷ [])) m a = absurd (omega (arith, a.1))
length-text (entry.Return pc (p ∷ q ∷ r ∷ s ∷ [])) m a = refl
length-text (entry.Return pc (p ∷ q ∷ r ∷ s ∷ t ∷ ts)) m a = absurd (omega (arith, a.1))
length-text (entry.Store pc c old) m a = grind (arith, length-append)
length-text (entry.Fetch pc r x c old) m a = grind (arith, length-append)
length-text (entry.Cell pc x c old) m a = grind (arith, length-append)
length-text (entry.Trace pc x) m a = refl
length-text entry.End m a = refl
length-text (entry.EditRegister r x) m a = refl
length-text (entry.EditBytes c old) m a = grind (arith, length-append)
length-text (entry.EditPc pc Running) m a = refl
length-text (entry.EditPc pc Exited) m a = refl
length-text (entry.EditPc pc (Faulted (Access n))) m a = refl
length-text (entry.EditPc pc (Faulted (Token n))) m a = refl
length-text (entry.EditPc pc (Faulted Depth)) m a = refl

-- A weight is 5 to 519.
pub weight_low : (e : Entry) → FitsFields e → weight e ≤ greatest_weight
weight_low (entry.Register pc r x) a = omega arith
weight_low (entry.Jump pc) a = omega arith
weight_low (entry.Call pc old) a = omega (arith, a.1.0)
weight_low (entry.Return pc saved) a = omega arith
weight_low (entry.Store pc c old) a = omega (arith, a.2.1)
weight_low (entry.Fetch pc r x c old) a = omega (arith, a.4.1)
weight_low (entry.Cell pc x c old) a = omega (arith, a.3.1)
weight_low (entry.Trace pc x) a = omega arith
weight_low entry.End a = omega arith
weight_low (entry.EditRegister r x) a = omega arith
weight_low (entry.EditBytes c old) a = omega (arith, a.1.1)
weight_low (entry.EditPc pc st) a = omega arith

pub weight_high : (e : Entry) → 5 ≤ weight e
weight_high (entry.Register pc r x) = omega arith
weight_high (entry.Jump pc) = omega arith
weight_high (entry.Call pc old) = omega arith
weight_high (entry.Return pc saved) = omega arith
weight_high (entry.Store pc c old) = omega arith
weight_high (entry.Fetch pc r x c old) = omega arith
weight_high (entry.Cell pc x c old) = omega arith
weight_high (entry.Trace pc x) = omega arith
weight_high entry.End = omega arith
weight_high (entry.EditRegister r x) = omega arith
weight_high (entry.EditBytes c old) = omega arith
weight_high (entry.EditPc pc st) = omega arith

weight_small : (e : Entry) → FitsFields e → weight e < 256 ^ 2
weight_small e a = let low = weight_low e a in omega arith

pub kind_low : (e : Entry) → kind e < 128
kind_low (entry.Register pc r x) = omega arith
kind_low (entry.Jump pc) = omega arith
kind_low (entry.Call pc old) = omega arith
kind_low (entry.Return pc saved) = omega arith
kind_low (entry.Store pc c old) = omega arith
kind_low (entry.Fetch pc r x c old) = omega arith
kind_low (entry.Cell pc x c old) = omega arith
kind_low (entry.Trace pc x) = omega arith
kind_low entry.End = omega arith
kind_low (entry.EditRegister r x) = omega arith
kind_low (entry.EditBytes c old) = omega arith
kind_low (entry.EditPc pc st) = omega arith

-- A tag is of one kind and one mark.
apart : (a b : ℕ) (m n : Bool) → a < 128 → b < 128 → tag a m ≡ tag b n → (a ≡ b) × (m ≡ n)
apart a b true true x y e = (omega (arith, e), refl)
apart a b false false x y e = (e, refl)
apart a b true false x y e = absurd (omega (arith, e))
apart a b false true x y e = absurd (omega (arith, e))

-- Entries with one text are one.
pub one_entry : (e f : Entry) (m n : Bool) → FitsFields e → FitsFields f → text e m ≡ text f n → (e ≡ f) × (m ≡ n)
one_entry e f m n a b h =
    let tags = apart (kind e) (kind f) m n (kind_low e) (kind_low f) (ap (λ l. slice_index l 2) h) in
    let weights : weight e ≡ weight f = number_of 2 (weight e) (weight f) _ _ (weight_small e a) (weight_small f b) h in
    let entries : e ≡ f =
    sym (read_entry e m a)
    ∙ ap (λ k. entry_of k (weight e) (text e m)) tags.0
    ∙ ap (λ w. entry_of (kind f) w (text e m)) weights
    ∙ ap (λ t. entry_of (kind f) (weight f) t) h
    ∙ read_entry f n b in
    (entries, tags.1)

-- What a tag says, in bytes that begin with an entry's text.
pub kind_back : (e : Entry) (m : Bool) (rest bytes : List ℕ) → bytes ≡ text e m ++ rest → slice_index bytes 2 % 128 ≡ kind e
kind_back e true rest bytes h =
    let at : slice_index bytes 2 ≡ kind e + 128 = ap (λ l. slice_index l 2) h in
    omega (arith, at, kind_low e)
kind_back e false rest bytes h =
    let at : slice_index bytes 2 ≡ kind e = ap (λ l. slice_index l 2) h in
    omega (arith, at, kind_low e)

pub mark_back : (e : Entry) (m : Bool) (rest bytes : List ℕ) → bytes ≡ text e m ++ rest → nat_le 128 (slice_index bytes 2) ≡ m
mark_back e true rest bytes h =
    let at : slice_index bytes 2 ≡ kind e + 128 = ap (λ l. slice_index l 2) h in
    grind (arith, nat_tests)
mark_back e false rest bytes h =
    let at : slice_index bytes 2 ≡ kind e = ap (λ l. slice_index l 2) h in
    let low = kind_low e in
    grind (arith, nat_tests)

-- Kinds up to 9 are of steps.
pub kind_step : (e : Entry) → nat_le (kind e) 9 ≡ is_of_step e
kind_step (entry.Register pc r x) = refl
kind_step (entry.Jump pc) = refl
kind_step (entry.Call pc old) = refl
kind_step (entry.Return pc saved) = refl
kind_step (entry.Store pc c old) = refl
kind_step (entry.Fetch pc r x c old) = refl
kind_step (entry.Cell pc x c old) = refl
kind_step (entry.Trace pc x) = refl
kind_step entry.End = refl
kind_step (entry.EditRegister r x) = refl
kind_step (entry.EditBytes c old) = refl
kind_step (entry.EditPc pc st) = refl

-- So bytes that are read by their own kind are the entry whose text they are.
pub kind_high : (e : Entry) → (1 ≤ kind e) × (kind e ≤ 12)
kind_high (entry.Register pc r x) = (omega arith, omega arith)
kind_high (entry.Jump pc) = (omega arith, omega arith)
kind_high (entry.Call pc old) = (omega arith, omega arith)
kind_high (entry.Return pc saved) = (omega arith, omega arith)
kind_high (entry.Store pc c old) = (omega arith, omega arith)
kind_high (entry.Fetch pc r x c old) = (omega arith, omega arith)
kind_high (entry.Cell pc x c old) = (omega arith, omega arith)
kind_high (entry.Trace pc x) = (omega arith, omega arith)
kind_high entry.End = (omega arith, omega arith)
kind_high (entry.EditRegister r x) = (omega arith, omega arith)
kind_high (entry.EditBytes c old) = (omega arith, omega arith)
kind_high (entry.EditPc pc st) = (omega arith, omega arith)

pub read_whole : (e : Entry) (m : Bool) (k : ℕ) (bytes : List ℕ) → FitsFields e → bytes ≡ text e m → k ≡ kind e → entry_of k (length bytes) bytes ≡ e
read_whole e m k bytes a h q =
    let count : length bytes ≡ weight e = ap length h ∙ length-text e m a in
    ap (λ i. entry_of i (length bytes) bytes) q
    ∙ ap (λ n. entry_of (kind e) n bytes) count
    ∙ ap (λ t. entry_of (kind e) (weight e) t) h
    ∙ read_entry e m a

pub read_as : (e : Entry) (m : Bool) (k : ℕ) (bytes : List ℕ) (result : Option Entry) → FitsFields e → bytes ≡ text e m → k ≡ kind e → ReadsAs k bytes result → result ≡ Some e
read_as e m k bytes result a h q reads =
    let is : entry_of k (length bytes) bytes ≡ e = read_whole e m k bytes a h q in
    let fits : FitsFields (entry_of k (length bytes) bytes) = subst FitsFields (sym is) a in
    let count : length bytes ≡ weight (entry_of k (length bytes) bytes) = ap length h ∙ length-text e m a ∙ ap weight (sym is) in
    reads fits count ∙ ap Some is
