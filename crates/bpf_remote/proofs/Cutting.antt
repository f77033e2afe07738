-- The parts of an item, as they are read one after another.
use Rattle.std.proofs.Common.{◌≡◌, ◌≢◌, ◌≤◌, inr, ℕ, true, false, List, [], ◌∷◌, ◌++◌, Option, Some, None, Result, Ok, Err, refl, sym, ◌∙◌, arith, append_assoc}
use Rattle.std.proofs.lemmas.List.{append-nil}
use Rattle.std.proofs.lemmas.List.Folds.{list_all-append}
use Rattle.std.proofs.lemmas.Bool.{ne_eqb}
use Rattle.counted_io.specs.Counted.{Tally}
use Rattle.counted_io.specs.Reading.{ReadsByte}
use Rattle.bpf_remote.specs.Packets.{Buffer, Holds, IsBody, IsNoise, IsItem, IsPacket}
use Rattle.bpf_remote.specs.Streams.{Reads, ReadsItem}
use Rattle.bpf_remote.specs.Cuts.{FindsStart, ReadsBody, ReadsSum, ReadsPacket, IsSorted}
use Rattle.bpf_remote.specs.declared.stream.Item.{Item}
use Rattle.bpf_remote.specs.declared.stream.Item.TheVariants as item
use Rattle.bpf_remote.specs.declared.stream.Start.TheVariants as start
use Rattle.bpf_remote.proofs.Reading.{Reads-none, Reads-more, Reads-end, Fails-after, Reads-trans, Reads-Fails, IsAll-end, IsAll-trans}

noise-push : (front : List ℕ) (byte : ℕ) → IsNoise front → byte ≢ 36 → byte ≢ 45 → IsNoise (front ++ byte ∷ [])
noise-push front byte h a b = list_all-append _ front (byte ∷ []) ∙ rw (h, ne_eqb byte 36 a, ne_eqb byte 45 b) refl

body-push : (front : List ℕ) (byte : ℕ) → IsBody front → byte ≢ 35 → IsBody (front ++ byte ∷ [])
body-push front byte h a = list_all-append _ front (byte ∷ []) ∙ rw (h, ne_eqb byte 35 a) refl

module _ {R : Type 0} (remaining : R → Option (List ℕ)) where
  -- noise so far
  pub record Noise (old now : Tally R) : Type 0 where
    pub nearer : old.reads ≤ now.reads
    pub front : List ℕ
    pub quiet : IsNoise front
    pub came : Reads remaining old now front

  pub Noise-start : (old : Tally R) → Noise old old
  Noise-start old = record { nearer = omega arith; front = []; quiet = refl; came = Reads-none remaining old }

  pub Noise-more : {E : Type 0} (old now new : Tally R) (byte : ℕ) → Noise old now → ReadsByte {E = E} remaining now new (Ok (Some byte)) → byte ≢ 36 → byte ≢ 45 → Noise old new
  Noise-more old now new byte n r a b = let p = r.passed in let m = n.nearer in record {
    nearer = omega arith;
    front = n.front ++ byte ∷ [];
    quiet = noise-push n.front byte n.quiet a b;
    came = Reads-more remaining old now new n.front byte n.came r;
  }

  pub Noise-packet : {E : Type 0} (old now new : Tally R) (byte : ℕ) → Noise old now → ReadsByte {E = E} remaining now new (Ok (Some byte)) → byte ≡ 36 → FindsStart {E = E} remaining old new (Ok start.Packet)
  Noise-packet old now new byte n r e = let p = r.passed in let m = n.nearer in
      (n.front, n.quiet, rw (sym e) (Reads-more remaining old now new n.front byte n.came r), tt, (omega arith, omega arith))

  pub Noise-again : {E : Type 0} (old now new : Tally R) (byte : ℕ) → Noise old now → ReadsByte {E = E} remaining now new (Ok (Some byte)) → byte ≡ 45 → FindsStart {E = E} remaining old new (Ok start.Again)
  Noise-again old now new byte n r e = let p = r.passed in let m = n.nearer in
      (n.front, n.quiet, rw (sym e) (Reads-more remaining old now new n.front byte n.came r), tt, (omega arith, omega arith))

  pub Noise-end : {E : Type 0} (old now new : Tally R) → Noise old now → ReadsByte {E = E} remaining now new (Ok None) → FindsStart {E = E} remaining old new (Ok start.Missing)
  Noise-end old now new n r = let p = r.passed in let m = n.nearer in
      (n.front, n.quiet, rw (append-nil n.front) (Reads-end remaining old now new n.front n.came r), IsAll-end remaining old now new n.front n.came r, (omega arith, omega arith))

  pub Noise-fail : {E : Type 0} (old now new : Tally R) (fault : E) → Noise old now → ReadsByte remaining now new (Err fault) → FindsStart remaining old new (Err fault)
  Noise-fail old now new fault n r = (n.front, n.quiet, Fails-after remaining old now new n.front fault n.came r)

  -- a body so far
  pub record Bytes (old now : Tally R) (buffer : Buffer) : Type 0 where
    pub nearer : old.reads ≤ now.reads
    pub body : List ℕ
    pub whole : IsBody body
    pub came : Reads remaining old now body
    pub held : Holds buffer body

  pub Bytes-start : (old : Tally R) (buffer : Buffer) → Holds buffer [] → Bytes old old buffer
  Bytes-start old buffer h = record { nearer = omega arith; body = []; whole = refl; came = Reads-none remaining old; held = h }

  pub Bytes-more : {E : Type 0} (old now new : Tally R) (before after : Buffer) (byte : ℕ) → Bytes old now before → ReadsByte {E = E} remaining now new (Ok (Some byte)) → byte ≢ 35
      → ((body : List ℕ) → Holds before body → Holds after (body ++ byte ∷ [])) → Bytes old new after
  Bytes-more old now new before after byte b r other push = let p = r.passed in let m = b.nearer in record {
    nearer = omega arith;
    body = b.body ++ byte ∷ [];
    whole = body-push b.body byte b.whole other;
    came = Reads-more remaining old now new b.body byte b.came r;
    held = push b.body b.held;
  }

  pub Bytes-whole : {E : Type 0} (old now new : Tally R) (buffer : Buffer) (byte : ℕ) → Bytes old now buffer → ReadsByte {E = E} remaining now new (Ok (Some byte)) → byte ≡ 35 → ReadsBody {E = E} remaining old new buffer (Ok true)
  Bytes-whole old now new buffer byte b r e = let p = r.passed in let m = b.nearer in
      (b.body, b.whole, rw (sym e) (Reads-more remaining old now new b.body byte b.came r), b.held, (omega arith, omega arith))

  pub Bytes-end : {E : Type 0} (old now new : Tally R) (buffer : Buffer) → Bytes old now buffer → ReadsByte {E = E} remaining now new (Ok None) → ReadsBody {E = E} remaining old new buffer (Ok false)
  Bytes-end old now new buffer b r = let p = r.passed in let m = b.nearer in
      (b.body, b.whole, Reads-end remaining old now new b.body b.came r, IsAll-end remaining old now new b.body b.came r, (omega arith, omega arith))

  pub Bytes-fail : {E : Type 0} (old now new : Tally R) (buffer : Buffer) (fault : E) → Bytes old now buffer → ReadsByte remaining now new (Err fault) → ReadsBody remaining old new buffer (Err fault)
  Bytes-fail old now new buffer fault b r = (b.body, b.whole, Fails-after remaining old now new b.body fault b.came r)

  -- what stands behind `$`: a body, and what is left of a sum
  behind : (body part : List ℕ) → (body ++ 35 ∷ []) ++ part ≡ body ++ 35 ∷ part
  behind body part = append_assoc body (35 ∷ []) part

  pub Packet-fail : {E : Type 0} (old mid new : Tally R) (before after : Buffer) (fault : E) → ReadsBody {E = E} remaining old mid before (Ok true) → ReadsSum {E = E} remaining mid new (Err fault)
      → ReadsPacket remaining old new after (Err fault)
  Packet-fail old mid new before after fault b s = (
    b.0 ++ 35 ∷ s.0,
    rw (sym (behind b.0 s.0)) (Reads-Fails remaining old mid new (b.0 ++ 35 ∷ []) s.0 b.2 s.2),
    record { body = b.0; more = 35 ∷ s.0; whole = b.1; short = s.1; parts = refl },
  )

  pub Packet-end : (old mid new : Tally R) (before after : Buffer) → ReadsBody {E = ⊥} remaining old mid before (Ok true) → ReadsSum {E = ⊥} remaining mid new (Ok None)
      → ReadsPacket {E = ⊥} remaining old new after (Ok item.End)
  Packet-end old mid new before after b s = let n = b.4 in let m = s.4 in (
    b.0 ++ 35 ∷ s.0,
    rw (sym (behind b.0 s.0)) (Reads-trans remaining old mid new (b.0 ++ 35 ∷ []) s.0 b.2 s.2),
    record { body = b.0; more = 35 ∷ s.0; whole = b.1; short = s.1; parts = refl },
    (λ _. rw (sym (behind b.0 s.0)) (IsAll-trans remaining old mid (b.0 ++ 35 ∷ []) s.0 b.2 s.3)),
    (omega arith, omega arith),
  )

  sorted : (buffer : Buffer) (body : List ℕ) (high low : ℕ) (found : Item) → IsBody body → Holds buffer body → IsSorted body high low found
      → (found ≡ item.Packet → buffer.is_long ≡ false) → IsPacket found (body ++ 35 ∷ high ∷ low ∷ []) buffer
  sorted buffer body high low item.Packet whole held is short = let e = short refl in
      (body, high, low, record { whole = whole; parts = refl }, is.0, is.1, rw e at held, e)
  sorted buffer body high low item.Damaged whole held is short = (body, high, low, record { whole = whole; parts = refl }, is)
  sorted buffer body high low item.Again whole held is short = is
  sorted buffer body high low item.End whole held is short = absurd is

  no-end : (body : List ℕ) (high low : ℕ) (found : Item) → IsSorted body high low found → found ≡ item.End → ⊥
  no-end body high low item.Packet is e = cc
  no-end body high low item.Damaged is e = cc
  no-end body high low item.Again is e = is
  no-end body high low item.End is e = is

  pub Packet-whole : (old mid new : Tally R) (buffer : Buffer) (high low : ℕ) (found : Item) → ReadsBody {E = ⊥} remaining old mid buffer (Ok true)
      → ReadsSum {E = ⊥} remaining mid new (Ok (Some (high, low))) → ((text : List ℕ) → Holds buffer text → IsSorted text high low found)
      → (found ≡ item.Packet → buffer.is_long ≡ false) → ReadsPacket {E = ⊥} remaining old new buffer (Ok found)
  Packet-whole old mid new buffer high low found b s is short = let n = b.4 in let m = s.1 in (
    b.0 ++ 35 ∷ high ∷ low ∷ [],
    rw (sym (behind b.0 (high ∷ low ∷ []))) (Reads-trans remaining old mid new (b.0 ++ 35 ∷ []) (high ∷ low ∷ []) b.2 s.0),
    sorted buffer b.0 high low found b.1 b.3 (is b.0 b.3) short,
    (λ e. absurd (no-end b.0 high low found (is b.0 b.3) e)),
    (omega arith, omega arith),
  )

  -- noise, `$`, and what stands behind it
  after-noise : (noise tail : List ℕ) → (noise ++ 36 ∷ []) ++ tail ≡ noise ++ 36 ∷ tail
  after-noise noise tail = append_assoc noise (36 ∷ []) tail

  as-item : (found : Item) (noise tail : List ℕ) (buffer : Buffer) → IsNoise noise → IsPacket found tail buffer → IsItem found (noise ++ 36 ∷ tail) buffer
  as-item item.Packet noise tail buffer quiet p = (noise, tail, quiet, refl, p)
  as-item item.Damaged noise tail buffer quiet p = (noise, tail, quiet, refl, p)
  as-item item.Again noise tail buffer quiet p = absurd p
  as-item item.End noise tail buffer quiet p = inr (noise, tail, quiet, refl, p)

  pub Item-packet : {E : Type 0} (old mid new : Tally R) (buffer : Buffer) (result : Result Item E) → FindsStart {E = ⊥} remaining old mid (Ok start.Packet)
      → ReadsPacket remaining mid new buffer result → ReadsItem remaining old new buffer result
  Item-packet old mid new buffer (Ok found) f p = let n = f.4 in let m = p.4 in record {
    item = (
      f.0 ++ 36 ∷ p.0,
      rw (sym (after-noise f.0 p.0)) (Reads-trans remaining old mid new (f.0 ++ 36 ∷ []) p.0 f.2 p.1),
      as-item found f.0 p.0 buffer f.1 p.2,
      λ e. rw (sym (after-noise f.0 p.0)) (IsAll-trans remaining old mid (f.0 ++ 36 ∷ []) p.0 f.2 (p.3 e)),
    );
    nearer = (omega arith, omega arith);
    part = tt;
  }
  Item-packet old mid new buffer (Err fault) f p = record {
    item = tt;
    nearer = tt;
    part = (f.0 ++ 36 ∷ p.0, rw (sym (after-noise f.0 p.0)) (Reads-Fails remaining old mid new (f.0 ++ 36 ∷ []) p.0 f.2 p.1), inr (f.0, p.0, f.1, refl, p.2));
  }
