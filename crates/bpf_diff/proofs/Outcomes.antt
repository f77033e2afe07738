-- What is told of two runs by what they leave.
use Rattle.std.proofs.Common.{◌≡◌, ℕ, false, List, ◌++◌, codes, append_assoc, Option, Some, None, sym, ap, ap₂, ◌∙◌}
use Rattle.std.specs.Prelude.{◌&&◌, is_none}
use Rattle.bpf_entries.specs.Status.{has_ended}
use Rattle.bpf_steps.specs.Runs.{Advances}
use Rattle.bpf_steps.specs.State.{State}
use Rattle.bpf_diff.specs.Starts.{Starts, begun_by}
use Rattle.bpf_diff.specs.declared.start.Start.{Start}
use Rattle.bpf_origin.specs.declared.place.Place.{Place}
use Rattle.bpf_session.specs.Plain.{plain_end}
use Rattle.bpf_trace.specs.Runs.{steps_of}
use Rattle.bpf_trace.specs.Traces.{end_line}
use Rattle.bpf_trace.proofs.Stepping.{Steps-program, whole_end}
use Rattle.bpf_diff.specs.Differences.{ends_text}
use Rattle.bpf_diff.specs.Ends.{same_status}
use Rattle.bpf_diff.specs.Outputs.{difference_text, last_write, place_line, place_text, value_text, write_alike, writer_line, writes_text}
use Rattle.bpf_diff.specs.Seen.{first_place, seen}
use Rattle.bpf_diff.specs.declared.texts.BothTexts.{BothTexts}

-- six texts, one behind the other
six : (p a v b w n : List ℕ) → ((((p ++ a) ++ v) ++ b) ++ w) ++ n ≡ p ++ (a ++ (v ++ (b ++ (w ++ n))))
six p a v b w n =
    append_assoc (((p ++ a) ++ v) ++ b) w n ∙ append_assoc ((p ++ a) ++ v) b (w ++ n) ∙ append_assoc (p ++ a) v (b ++ (w ++ n))
    ∙ append_assoc p a (v ++ (b ++ (w ++ n)))

pub line-is : (p : Place) (v w : Option ℕ)
    → ((((place_text p ++ codes " ends otherwise: ") ++ value_text v) ++ codes ", ") ++ value_text w) ++ codes "\n" ≡ place_line p v w
unfolding place_line
line-is p v w = six (place_text p) (codes " ends otherwise: ") (value_text v) (codes ", ") (value_text w) (codes "\n")

-- a machine that was opened again stands where it began
pub again : (limit n : ℕ) (at : Start) (x z : State) → Starts at x → Advances limit x z n → begun_by at z.program ≡ x
again limit n at x z starts run = ap (begun_by at) (Steps-program x z n run.steps) ∙ sym starts

module _ (limit n m : ℕ) (x y z w : State) (first : Advances limit x z n) (second : Advances limit y w m) where
  -- two runs that ended so
  pub ends-there : ends_text false 0 (end_line limit z) (end_line limit w)
      ≡ ends_text false 0 (end_line limit (plain_end limit x)) (end_line limit (plain_end limit y))
  ends-there =
      ap₂ (λ (a b : State). ends_text false 0 (end_line limit a) (end_line limit b)) (whole_end limit n x z first) (whole_end limit m y w second)

  module _ (c d : List ℕ) where
    all-text : (texts : BothTexts) → difference_text texts (first_place c d z w) (steps_of limit x) (steps_of limit y) z w
        ++ ends_text false 0 (end_line limit z) (end_line limit w)
        ≡ writes_text texts limit c d x y
    all-text texts =
        ap₂ (λ (a b : State). difference_text texts (first_place c d a b) (steps_of limit x) (steps_of limit y) a b
        ++ ends_text false 0 (end_line limit a) (end_line limit b)) (whole_end limit n x z first) (whole_end limit m y w second)

    all-alike : (is_none (first_place c d z w) && (same_status z.status w.status && has_ended z.status)) ≡ write_alike limit c d x y
    all-alike =
        ap₂ (λ (a b : State). is_none (first_place c d a b) && (same_status a.status b.status && has_ended a.status))
        (whole_end limit n x z first) (whole_end limit m y w second)

    -- the same
    pub same-text : (texts : BothTexts) → None ≡ first_place c d z w
        → codes "same writes\n" ++ ends_text false 0 (end_line limit z) (end_line limit w) ≡ writes_text texts limit c d x y
    same-text texts none =
        ap (λ (o : Option Place). difference_text texts o (steps_of limit x) (steps_of limit y) z w ++ ends_text false 0 (end_line limit z) (end_line limit w)) none
        ∙ all-text texts

    pub same-alike : None ≡ first_place c d z w → (same_status z.status w.status && has_ended z.status) ≡ write_alike limit c d x y
    same-alike none =
        ap (λ (o : Option Place). is_none o && (same_status z.status w.status && has_ended z.status)) none ∙ all-alike

    -- or not
    module _ (p : Place) (some : Some p ≡ first_place c d z w) where
      pub differ-alike : false ≡ write_alike limit c d x y
      differ-alike =
          ap (λ (o : Option Place). is_none o && (same_status z.status w.status && has_ended z.status)) some ∙ all-alike

      differ-text : (texts : BothTexts) → (place_line p (seen z p) (seen w p)
          ++ (writer_line (codes "< ") texts.first (last_write p (steps_of limit x)) (steps_of limit x)
          ++ writer_line (codes "> ") texts.second (last_write p (steps_of limit y)) (steps_of limit y)))
          ++ ends_text false 0 (end_line limit (plain_end limit x)) (end_line limit (plain_end limit y))
          ≡ writes_text texts limit c d x y
      differ-text texts =
          ap (λ (t : List ℕ). difference_text texts (Some p) (steps_of limit x) (steps_of limit y) z w ++ t) (sym ends-there)
          ∙ ap (λ (o : Option Place). difference_text texts o (steps_of limit x) (steps_of limit y) z w ++ ends_text false 0 (end_line limit z) (end_line limit w)) some
          ∙ all-text texts

      pub differ-told : (texts : BothTexts) (v u : Option ℕ) (k l : ℕ) (a b : State) → v ≡ seen z p → u ≡ seen w p → a ≡ x → b ≡ y
          → k ≡ last_write p (steps_of limit x) → l ≡ last_write p (steps_of limit y)
          → (place_line p v u ++ (writer_line (codes "< ") texts.first k (steps_of limit a) ++ writer_line (codes "> ") texts.second l (steps_of limit b)))
          ++ ends_text false 0 (end_line limit (plain_end limit a)) (end_line limit (plain_end limit b))
          ≡ writes_text texts limit c d x y
      differ-told texts v u k l a b ev eu ea eb ek el =
          ap₂ (λ (s t : State). (place_line p v u ++ (writer_line (codes "< ") texts.first k (steps_of limit s) ++ writer_line (codes "> ") texts.second l (steps_of limit t)))
          ++ ends_text false 0 (end_line limit (plain_end limit s)) (end_line limit (plain_end limit t))) ea eb
          ∙ ap₂ (λ (s t : Option ℕ). (place_line p s t
          ++ (writer_line (codes "< ") texts.first k (steps_of limit x) ++ writer_line (codes "> ") texts.second l (steps_of limit y)))
          ++ ends_text false 0 (end_line limit (plain_end limit x)) (end_line limit (plain_end limit y))) ev eu
          ∙ ap₂ (λ (s t : ℕ). (place_line p (seen z p) (seen w p)
          ++ (writer_line (codes "< ") texts.first s (steps_of limit x) ++ writer_line (codes "> ") texts.second t (steps_of limit y)))
          ++ ends_text false 0 (end_line limit (plain_end limit x)) (end_line limit (plain_end limit y))) ek el
          ∙ differ-text texts
