-- Moves that are taken back together: one more, and what is left and counted then.
use Rattle.std.proofs.Common.{◌≡◌, ◌≤◌, ◌<◌, ◌+◌, ◌-◌, ◌^◌, ℕ, zero, suc, Bool, List, [], ◌∷◌, ◌++◌, length, take, drop, map, refl, sym, ap, ◌∙◌, subst, append_assoc, arith}
use Rattle.std.proofs.lemmas.Grind.{elements}
use Rattle.std.proofs.lemmas.List.{append-nil, drop_at, length-append, length-drop, length-take, take_all, take_at, take-append-drop, take-take}
use Rattle.std.proofs.lemmas.List.Elements.{All-cons, All-head, All-tail}
use Rattle.byteorder.specs.Endian.{little_bytes}
use Rattle.bpf_entries.proofs.Rings.{back_of, front as front_of, same_ends}
use Rattle.bpf_entries.proofs.Texts.{length-text, weight_low}
use Rattle.bpf_entries.specs.Fields.{FitsFields}
use Rattle.bpf_entries.specs.Keeping.{Kept}
use Rattle.bpf_entries.specs.Rings.{ring}
use Rattle.bpf_entries.specs.Texts.{text}
use Rattle.bpf_entries.specs.Weights.{weight}
use Rattle.bpf_machine.specs.declared.moves.Move.{Move}
use Rattle.bpf_machine.specs.Moves.{HasComeBy, Leads, overwritten}
use Rattle.bpf_steps.specs.State.{State}
use Rattle.bpf_ring.proofs.Counted.{step_fewer, step_more}
use Rattle.bpf_ring.proofs.Arounds.{around_more, length-around}
use Rattle.bpf_ring.specs.Blocks.{Content, around, behind, pasted}
use Rattle.bpf_ring.specs.Counted.{Counted}
use Rattle.bpf_ring.specs.Held.{IsHeld}
use Rattle.bpf_ring.specs.Ways.{EndsPlain, HandsBack, HasText, IsWay, Made, kept_by}
use Rattle.bpf_ring.specs.declared.backward.Stays.{Stays}
use Rattle.bpf_ring.specs.declared.counts.Counts.{Counts}

-- Where so many were taken back: what is left of the way, and the other list.
pub record Reached (z : State) (left other : List Kept → Type 0) : Type 0 where
  pub ws : List Made
  pub ls : List Kept
  pub way : IsWay ws z
  pub held : left (map kept_by ws)
  pub taken : other ls

pub reached : (marks : List Bool) (stays : Stays) (z : State) (left other : List Kept → Type 0) (n : ℕ) (ws : List Made) (ls : List Kept) (y : State) → IsWay ws y
    → HandsBack marks stays z left other n ws ls y → Reached z left other
reached marks stays z left other zero ws ls y way there = record { ws = ws; ls = ls; way = subst (IsWay ws) (sym there.0) way; held = there.1; taken = there.2 }
reached marks stays z left other (suc n) [] ls y way there = absurd there
reached marks stays z left other (suc n) (w ∷ ws) ls y way there = reached marks stays z left other n ws (kept_by w ∷ ls) w.before way.1 there.1

-- One more behind them.
module _ (marks : List Bool) (stays : Stays) (z z' : State) (left other left' other' : List Kept → Type 0)
    (more : (ws : List Made) (ls : List Kept) → IsWay ws z → left (map kept_by ws) → other ls → HandsBack marks stays z' left' other' 1 ws ls z) where
  pub hands_more : (n : ℕ) (ws : List Made) (ls : List Kept) (y : State) → IsWay ws y → HandsBack marks stays z left other n ws ls y
      → HandsBack marks stays z' left' other' (suc n) ws ls y
  hands_more zero ws ls y way there =
      subst (HandsBack marks stays z' left' other' 1 ws ls) there.0 (more ws ls (subst (IsWay ws) (sym there.0) way) there.1 there.2)
  hands_more (suc n) [] ls y way there = absurd there
  hands_more (suc n) (w ∷ ws) ls y way there = (there.0, hands_more n ws (kept_by w ∷ ls) w.before way.1 there.1)

-- What is held otherwise then.
module _ (marks : List Bool) (stays : Stays) (z : State) (left other left' other' : List Kept → Type 0) where
  pub hands_as : ((ks : List Kept) → left ks → left' ks) → ((ls : List Kept) → other ls → other' ls)
      → (n : ℕ) (ws : List Made) (ls : List Kept) (y : State) → HandsBack marks stays z left other n ws ls y → HandsBack marks stays z left' other' n ws ls y
  hands_as l o zero ws ls y there = (there.0, l (map kept_by ws) there.1, o ls there.2)
  hands_as l o (suc n) [] ls y there = there
  hands_as l o (suc n) (w ∷ ws) ls y there = (there.0, hands_as l o n ws (kept_by w ∷ ls) w.before there.1)

  -- what is counted then
  pub hands_counted : (base : Type 0) (c d : Counts) (n : ℕ) (ws : List Made) (ls : List Kept) (y : State)
      → ((ks : List Kept) → left ks → Counted (record c { entries = c.entries - n }) ks → left' ks)
      → ((ms : List Kept) → other ms → (base → Counted (record d { entries = d.entries + n }) ms) → other' ms)
      → Counted c (map kept_by ws) → (base → Counted d ls)
      → HandsBack marks stays z left other n ws ls y → HandsBack marks stays z left' other' n ws ls y
  hands_counted base c d zero ws ls y l o counted counts there = (
    there.0,
    l (map kept_by ws) there.1 (record { entries = omega (arith, counted.entries); marks = counted.marks; edits = counted.edits }),
    o ls there.2 (λ b. let at = counts b in record { entries = omega (arith, at.entries); marks = at.marks; edits = at.edits }),
  )
  hands_counted base c d (suc n) [] ls y l o counted counts there = absurd there
  hands_counted base c d (suc n) (w ∷ ws) ls y l o counted counts there =
      let less : Counts = record c { entries = c.entries - 1 } in
      let more : Counts = record d { entries = d.entries + 1 } in
      let fewer : c.entries - 1 - n ≡ c.entries - suc n = omega arith in
      let sum : d.entries + 1 + n ≡ d.entries + suc n = omega arith in (
        there.0,
        hands_counted base less more n ws (kept_by w ∷ ls) w.before
            (λ ks held at. l ks held (subst (λ (m : ℕ). Counted (record c { entries = m }) ks) fewer at))
            (λ ms held at. o ms held (λ b. subst (λ (m : ℕ). Counted (record d { entries = m }) ms) sum (at b)))
            (step_fewer c less (map kept_by ws) (kept_by w) counted there.0.step there.0.unmarked refl refl refl)
            (λ b.
            subst (λ (mark : Bool). Counted more ((overwritten w.before w.move, mark) ∷ ls)) (sym there.0.unmarked)
            (step_more d more ls (overwritten w.before w.move) (counts b) (sym there.0.step) refl refl refl))
            there.1,
      )

-- The newest entry's text at the end of bytes.
pub record Newest (bytes front rest : List ℕ) (k : Kept) : Type 0 where
  pub fits : FitsFields k.0
  pub long : length (text k.0 k.1) ≡ weight k.0
  pub whole : front ++ bytes ≡ rest ++ text k.0 k.1

pub newest_of : (bytes front : List ℕ) (k : Kept) (ks : List Kept) → HasText (front ++ bytes) (k ∷ ks) → Newest bytes front (ring ks) k
newest_of bytes front k ks held =
    let fits : FitsFields k.0 = All-head (λ k. FitsFields k.0) k ks held.fit in
    record { fits = fits; long = length-text k.0 k.1 fits; whole = held.whole }

-- So many of the newest bytes are the end of what they stand behind.
drop_behind : (front bytes : List ℕ) (n : ℕ) → n ≤ length bytes → drop (length (front ++ bytes) - n) (front ++ bytes) ≡ drop (length bytes - n) bytes
drop_behind front bytes n low =
    let at : length (front ++ bytes) - n ≡ length (front ++ take (length bytes - n) bytes) =
    omega (arith, length-append front bytes, length-append front (take (length bytes - n) bytes), length-take (length bytes - n) bytes) in
    let cut : front ++ bytes ≡ (front ++ take (length bytes - n) bytes) ++ drop (length bytes - n) bytes =
    ap (λ l. front ++ l) (sym (take-append-drop (length bytes - n) bytes)) ∙ sym (append_assoc front (take (length bytes - n) bytes) (drop (length bytes - n) bytes)) in
    ap (drop (length (front ++ bytes) - n)) cut ∙ drop_at (front ++ take (length bytes - n) bytes) (drop (length bytes - n) bytes) (length (front ++ bytes) - n) (sym at)

-- The last two bytes tell its length.
pub tells_len : (bytes front rest : List ℕ) (k : Kept) (n : ℕ) → Newest bytes front rest k → 2 ≤ length bytes
    → ((w : ℕ) → w < 2 ^ 16 → drop (length bytes - 2) bytes ≡ little_bytes 2 w → n ≡ w) → n ≡ weight k.0
tells_len bytes front rest k n newest some len =
    let w = weight k.0 in
    let low = weight_low k.0 newest.fits in
    let ends : front ++ bytes ≡ (rest ++ front_of k.0 k.1) ++ little_bytes 2 w = newest.whole ∙ back_of rest k.0 k.1 in
    let at : length (rest ++ front_of k.0 k.1) ≡ length (front ++ bytes) - 2 = omega (arith, ap length ends, length-append (rest ++ front_of k.0 k.1) (little_bytes 2 w)) in
    let last : drop (length (front ++ bytes) - 2) (front ++ bytes) ≡ little_bytes 2 w =
    ap (drop (length (front ++ bytes) - 2)) ends ∙ drop_at (rest ++ front_of k.0 k.1) (little_bytes 2 w) (length (front ++ bytes) - 2) at in
    len w (omega (arith, low)) (sym (drop_behind front bytes 2 some) ∙ last)

-- So many bytes are its text.
pub is_text : (bytes front rest : List ℕ) (k : Kept) (n : ℕ) → Newest bytes front rest k → n ≡ weight k.0 → n ≤ length bytes → drop (length bytes - n) bytes ≡ text k.0 k.1
is_text bytes front rest k n newest is low =
    let at : length rest ≡ length (front ++ bytes) - n = omega (arith, ap length newest.whole, length-append rest (text k.0 k.1), newest.long, is) in
    sym (drop_behind front bytes n low) ∙ ap (drop (length (front ++ bytes) - n)) newest.whole ∙ drop_at rest (text k.0 k.1) (length (front ++ bytes) - n) at

-- What is left without it, and where it goes.
pub text_left : (front bytes : List ℕ) (end n : ℕ) (k : Kept) (ks : List Kept) → HasText (front ++ take end bytes) (k ∷ ks) → n ≤ end → end ≤ length bytes
    → drop (length (take end bytes) - n) (take end bytes) ≡ text k.0 k.1 → HasText (front ++ take (end - n) bytes) ks
text_left front bytes end n k ks held low high is = record {
  fit = All-tail (λ k. FitsFields k.0) k ks held.fit;
  whole = (same_ends (front ++ take (end - n) bytes) (ring ks) (text k.0 k.1) (text k.0 k.1) refl (cut ∙ held.whole)).0;
}
  where
    long : length (take end bytes) ≡ end
    long = length-take end bytes ∙ omega (arith, high)

    short : take (length (take end bytes) - n) (take end bytes) ≡ take (end - n) bytes
    short = ap (λ (m : ℕ). take (m - n) (take end bytes)) long ∙ take-take (end - n) end bytes (omega arith)

    cut : (front ++ take (end - n) bytes) ++ text k.0 k.1 ≡ front ++ take end bytes
    cut =
        append_assoc front (take (end - n) bytes) (text k.0 k.1)
        ∙ ap (λ l. front ++ (l ++ text k.0 k.1)) (sym short)
        ∙ ap (λ l. front ++ (take (length (take end bytes) - n) (take end bytes) ++ l)) (sym is)
        ∙ ap (λ l. front ++ l) (take-append-drop (length (take end bytes) - n) (take end bytes))

pub text_more : (older old new : List ℕ) (k : Kept) (ls : List Kept) → FitsFields k.0 → HasText (older ++ old) ls → new ≡ old ++ text k.0 k.1 → HasText (older ++ new) (k ∷ ls)
text_more older old new k ls fits held is = record {
  fit = All-cons (λ k. FitsFields k.0) k ls fits held.fit;
  whole = ap (λ l. older ++ l) is ∙ sym (append_assoc older old (text k.0 k.1)) ∙ ap (λ l. l ++ text k.0 k.1) held.whole;
}

-- A slice of a front.
pub slice_of : (text : List ℕ) (end n : ℕ) → n ≤ end → end ≤ length text → take (end - (end - n)) (drop (end - n) text) ≡ drop (length (take end text) - n) (take end text)
slice_of text end n low high =
    let long : length (take end text) ≡ end = length-take end text ∙ omega (arith, high) in
    let cut : take end text ≡ take (end - n) text ++ take (end - (end - n)) (drop (end - n) text) = grind (arith, elements) in
    let first : length (take (end - n) text) ≡ length (take end text) - n = length-take (end - n) text ∙ omega (arith, long, high, low) in
    sym (ap (drop (length (take end text) - n)) cut ∙ drop_at (take (end - n) text) (take (end - (end - n)) (drop (end - n) text)) (length (take end text) - n) first)

-- The loop's begin: nothing is taken back.
pub none_yet : (marks : List Bool) (stays : Stays) (y : State) (bytes room front older : List ℕ) (ws : List Made) (ls : List Kept) → HasText (front ++ bytes) (map kept_by ws)
    → HandsBack marks stays y (HasText (front ++ take (length bytes - 0) bytes)) (λ ms. HasText older ls → HasText (older ++ take 0 room) ms) 0 ws ls y
none_yet marks stays y bytes room front older ws ls held = (
  refl,
  subst (λ (l : List ℕ). HasText (front ++ l) (map kept_by ws)) (sym (take_all (length bytes - 0) bytes (omega arith))) held,
  λ base. subst (λ (l : List ℕ). HasText l ls) (sym (append-nil older)) base,
)

-- What the newest entry leaves.
module _ (marks : List Bool) (stays : Stays) (z : State) (bytes piece : List ℕ) (at n : ℕ) (some : 5 ≤ n) (low : n ≤ length bytes - at)
    (plain : (front : List ℕ) (k : Kept) (ks : List Kept) → HasText (front ++ take (length bytes - at) bytes) (k ∷ ks) → EndsPlain marks stays (take (length bytes - at) bytes) n k)
    (cut : piece ≡ drop (length (take (length bytes - at) bytes) - n) (take (length bytes - at) bytes)) where
  -- it led to the state
  pub came : (front : List ℕ) (ws : List Made) → IsWay ws z → HasText (front ++ take (length bytes - at) bytes) (map kept_by ws) → HasComeBy z piece
  came front [] way held = absurd (omega (arith, ap length held.whole, length-append front (take (length bytes - at) bytes), length-take (length bytes - at) bytes, some, low))
  came front (w ∷ ws) way held =
      let e = plain front (kept_by w) (map kept_by ws) held in
      record {
        entry = overwritten w.before w.move;
        mark = w.mark;
        come = record { x = w.before; m = w.move; leads = way.0; held = refl };
        fits = All-head (λ k. FitsFields k.0) (kept_by w) (map kept_by ws) held.fit;
        held = cut ∙ e.newest;
      }

  module _ (z' : State) (room room' : List ℕ) (back : (x : State) (m : Move) (mark : Bool) → Leads x m z → FitsFields (overwritten x m) → piece ≡ text (overwritten x m) mark → z' ≡ x)
      (copied : take (at + n) room' ≡ take at room ++ piece) where
    pub one_more : (front older : List ℕ) (base : List Kept) (ws : List Made) (ls : List Kept) → IsWay ws z → HasText (front ++ take (length bytes - at) bytes) (map kept_by ws)
        → (HasText older base → HasText (older ++ take at room) ls)
        → HandsBack marks stays z' (HasText (front ++ take (length bytes - (at + n)) bytes)) (λ ms. HasText older base → HasText (older ++ take (at + n) room') ms) 1 ws ls z
    one_more front older base [] ls way held into = absurd (omega (arith, ap length held.whole, length-append front (take (length bytes - at) bytes), length-take (length bytes - at) bytes, some, low))
    one_more front older base (w ∷ ws) ls way held into =
        let k : Kept = kept_by w in
        let e = plain front k (map kept_by ws) held in
        let fits : FitsFields k.0 = All-head (λ k. FitsFields k.0) k (map kept_by ws) held.fit in
        let left : length bytes - at - n ≡ length bytes - (at + n) = omega arith in (
          e.plain,
          (
            back w.before w.move w.mark way.0 fits (cut ∙ e.newest),
            subst (λ (m : ℕ). HasText (front ++ take m bytes) (map kept_by ws)) left
                (text_left front bytes (length bytes - at) n k (map kept_by ws) held low (omega arith) e.newest),
            λ b. text_more older (take at room) (take (at + n) room') k ls fits (into b) (copied ∙ ap (λ l. take at room ++ l) (cut ∙ e.newest)),
          ),
        )

-- A slice at the end.
pub end_slice : (bytes : List ℕ) (n : ℕ) → n ≤ length bytes → take (length bytes - (length bytes - n)) (drop (length bytes - n) bytes) ≡ drop (length bytes - n) bytes
end_slice bytes n low = take_all (length bytes - (length bytes - n)) (drop (length bytes - n) bytes) (omega (arith, length-drop (length bytes - n) bytes))

-- What was copied behind what was copied before.
pub copied_on : (room piece : List ℕ) (at n : ℕ) → length piece ≡ n → at + n ≤ length room → take (at + n) (pasted room at piece) ≡ take at room ++ piece
copied_on room piece at n long fits =
    let whole : pasted room at piece ≡ (take at room ++ piece) ++ drop (at + length piece) room = sym (append_assoc (take at room) piece (drop (at + length piece) room)) in
    let count : length (take at room ++ piece) ≡ at + n = omega (arith, length-append (take at room) piece, length-take at room, long, fits) in
    ap (take (at + n)) whole ∙ take_at (take at room ++ piece) (drop (at + length piece) room) (at + n) count

-- So many of the bytes that were written behind those of a ring.
pub run_behind : (xs new : List ℕ) (first len end n : ℕ) → end ≡ behind (length xs) first len → first < length xs → len + length new ≤ length xs → end + length new ≤ length xs → n ≤ length new
    → around (pasted xs end new) first (len + n) ≡ around xs first len ++ take n new
run_behind xs new first len end n e a b c low =
    let kept : length (around xs first len) ≡ len = length-around xs first len (omega arith) (omega arith) in
    let cut : around xs first len ++ new ≡ (around xs first len ++ take n new) ++ drop n new =
    ap (λ l. around xs first len ++ l) (sym (take-append-drop n new)) ∙ sym (append_assoc (around xs first len) (take n new) (drop n new)) in
    let count : length (around xs first len ++ take n new) ≡ len + n = omega (arith, length-append (around xs first len) (take n new), kept, length-take n new, low) in
    sym (take-take (len + n) (len + length new) (drop first (pasted xs end new) ++ take first (pasted xs end new)) (omega arith))
    ∙ ap (take (len + n)) (around_more xs new first len end e a b c)
    ∙ ap (take (len + n)) cut
    ∙ take_at (around xs first len ++ take n new) (drop n new) (len + n) count

-- The newest bytes behind the others.
pub behind_others : (bytes newest : List ℕ) → newest ≡ drop (length bytes - length newest) bytes → take (length bytes - length newest) bytes ++ newest ≡ bytes
behind_others bytes newest is =
    ap (λ l. take (length bytes - length newest) bytes ++ l) is ∙ take-append-drop (length bytes - length newest) bytes

pub others_left : (bytes newest : List ℕ) (n : ℕ) → newest ≡ drop (length bytes - length newest) bytes → length newest ≤ length bytes → n ≤ length newest
    → take (length bytes - n) bytes ≡ take (length bytes - length newest) bytes ++ take (length newest - n) newest
others_left bytes newest n is within low =
    let cut : bytes ≡ (take (length bytes - length newest) bytes ++ take (length newest - n) newest) ++ drop (length newest - n) newest =
    sym (behind_others bytes newest is)
    ∙ ap (λ l. take (length bytes - length newest) bytes ++ l) (sym (take-append-drop (length newest - n) newest))
    ∙ sym (append_assoc (take (length bytes - length newest) bytes) (take (length newest - n) newest) (drop (length newest - n) newest)) in
    let count : length (take (length bytes - length newest) bytes ++ take (length newest - n) newest) ≡ length bytes - n =
    omega (arith, length-append (take (length bytes - length newest) bytes) (take (length newest - n) newest), length-take (length bytes - length newest) bytes, length-take (length newest - n) newest, within, low) in
    ap (take (length bytes - n)) cut ∙ take_at (take (length bytes - length newest) bytes ++ take (length newest - n) newest) (drop (length newest - n) newest) (length bytes - n) count

-- A ring whose bytes and counts are told apart.
pub held_so : (content : Content) (counts : Counts) (bytes : List ℕ) (ks : List Kept) → content.bytes ≡ bytes → HasText bytes ks → Counted counts ks → IsHeld content counts ks
held_so content counts bytes ks is text counted = record { fit = text.fit; bytes = is ∙ text.whole; counted = counted }

pub text_so : (content : Content) (counts : Counts) (ks : List Kept) → IsHeld content counts ks → HasText content.bytes ks
text_so content counts ks held = record { fit = held.fit; whole = held.bytes }
