-- How the words of a program are laid out.
use Rattle.std.proofs.Common.{◌≡◌, ◌≤◌, ◌<◌, ◌+◌, ◌*◌, nat_le, ℕ, Bool, List, Result, Ok, length, get_or, refl, ap, sym, ◌∙◌, subst, arith}
use Rattle.std.specs.Prelude.{is_some, if◌then◌else◌}
use Rattle.bpf_link.specs.declared.parts.Side.TheVariants.{Code, Text}
use Rattle.bpf_isa.specs.Checker.{most_slots}
use Rattle.bpf_link.specs.declared.fault.LinkFault.TheVariants.{TooLong}
use Rattle.bpf_link.specs.Objects.{provided}
use Rattle.bpf_link.specs.Parts.{AreParts}
use Rattle.bpf_link.specs.Plans.{after}
use Rattle.bpf_link.specs.Blanked.{blanked}
use Rattle.bpf_link.specs.Data.{Numbered, data_of}
use Rattle.bpf_link.specs.Setup.{stores_of, with_setup}
use Rattle.bpf_link.specs.Stubs.{answered, answers}
use Rattle.bpf_link.specs.declared.stubs.Stub.{Stub}
use Rattle.bpf_link.specs.declared.fault.LinkFault.{LinkFault}
use Rattle.bpf_link.specs.Links.{patch_width, maps_of, Answered, words_of, program_words}
use Rattle.bpf_link.specs.Laid.{IsDone, IsLaid, IsLaidOut}
use Rattle.bpf_link.proofs.Inversions.{count, from, after_ok, ok_same, provided_ok, names_slot}
use Rattle.bpf_link.proofs.LaidOut.{Apart, Done, raw, raw_length, raw_code, raw_text, done, both_kept, byte_kept, plain_apart, behind, text_behind}
use Rattle.bpf_link.proofs.Relocated.{IsFresh, all_done}

fresh_code : (placed : Numbered) (words : List ℕ) → AreParts placed.plan.parts → Done placed words → IsFresh placed Code (raw placed)
fresh_code placed words whole d = record { fits = d.code_fits; all = λ j within. ap (λ n. get_or (raw placed) n 0) (omega arith) ∙ raw_code placed j whole within }

fresh_text : (placed : Numbered) (words : List ℕ) → AreParts placed.plan.parts → (d : Done placed words) → IsFresh placed Text d.between
fresh_text placed words whole d = record {
  fits = d.text_fits;
  all = λ j within.
      byte_kept placed Code (raw placed) (length placed.plan.parts.code.relocations) d.between (8 * from placed Text + j) d.code d.code_fits (omega arith)
      (behind placed Code (8 * from placed Text + j) (omega arith))
      ∙ raw_text placed j (8 * from placed Text + j) whole refl;
}

code_done : (placed : Numbered) (words : List ℕ) (i : ℕ) → AreParts placed.plan.parts → Done placed words → i < length placed.plan.parts.code.relocations → IsDone placed Code words i
code_done placed words i whole d inside =
    let x = all_done placed Code (raw placed) d.between (length placed.plan.parts.code.relocations) i d.code (fresh_code placed words whole d) inside in
    let slot = names_slot placed Code i x.patch x.told in
    record {
      patch = x.patch;
      told = x.told;
      bytes = λ k small.
          byte_kept placed Text d.between (length placed.plan.parts.text.relocations) words (x.patch.at + k) d.text d.text_fits (omega arith)
          (text_behind placed (x.patch.at + k) (omega (arith, slot.at, slot.inside)))
          ∙ x.bytes k small;
      next = λ next k wide small.
          let two : patch_width x.patch ≡ 16 = ap (λ n. if is_some n then 16 else 8) wide in
          byte_kept placed Text d.between (length placed.plan.parts.text.relocations) words (x.patch.at + 8 + k) d.text d.text_fits (omega arith)
          (text_behind placed (x.patch.at + 8 + k) (omega (arith, slot.fits)))
          ∙ x.next next k wide small;
    }

pub laid : (placed : Numbered) (words : List ℕ) → AreParts placed.plan.parts → words_of placed ≡ Ok words → IsLaid placed words
laid placed words whole e =
    let d = done placed words whole e in
    record {
      size = d.size ∙ raw_length placed whole;
      code = λ p k within small plain.
          let same : 8 * (from placed Code + p) + k ≡ 8 * p + k = omega arith in
          both_kept placed words (8 * p + k) d (subst (Apart placed Code) same (plain_apart placed Code p k small plain)) (text_behind placed (8 * p + k) (omega arith)) ∙ raw_code placed (8 * p + k) whole (omega arith);
      text = λ p k within small plain.
          both_kept placed words (8 * (count placed Code + p) + k) d (behind placed Code (8 * (count placed Code + p) + k) (omega arith)) (plain_apart placed Text p k small plain)
          ∙ raw_text placed (8 * p + k) (8 * (count placed Code + p) + k) whole (omega arith);
      code_done = λ i inside. code_done placed words i whole d inside;
      text_done = λ i inside. all_done placed Text d.between words (length placed.plan.parts.text.relocations) i d.text (fresh_text placed words whole d) inside;
    }

abbrev written : ℕ → List Bool → List Stub → List ℕ → List ℕ → Answered
written entry reach stubs code stores = record { words = with_setup (answered stubs (blanked reach code)) stores entry; count = answers stubs (blanked reach code) }

abbrev finished : ℕ → List Bool → List Stub → List ℕ → List ℕ → Result Answered LinkFault
finished entry reach stubs code stores = provided (nat_le (length code + length stores) (8 * most_slots)) TooLong (Ok (written entry reach stubs code stores))

pub laid_out : (placed : Numbered) (slot : ℕ) (reach : List Bool) (stubs : List Stub) (made : Answered) → slot ≤ count placed Code → AreParts placed.plan.parts → maps_of placed.plan ≡ Ok placed.maps
    → data_of placed.plan ≡ Ok placed.taken → program_words placed reach slot stubs ≡ Ok made → IsLaidOut placed.plan slot reach stubs made.words
laid_out placed slot reach stubs made inside whole numbered referred e =
    let a = after_ok (words_of placed) (λ code. after (stores_of placed) (λ stores. finished slot reach stubs code stores)) made e in
    let b = after_ok (stores_of placed) (λ stores. finished slot reach stubs a.0 stores) made a.2 in
    let c = provided_ok (nat_le (length a.0 + length b.0) (8 * most_slots)) TooLong (Ok (written slot reach stubs a.0 b.0)) made b.2 in
    record {
      maps = placed.maps;
      taken = placed.taken;
      counted = numbered;
      referred = referred;
      parts = whole;
      relocated = a.0;
      done = a.1;
      laid = laid placed a.0 whole a.1;
      code = blanked reach a.0;
      blank = refl;
      inside = inside;
      stores = b.0;
      stored = b.1;
      whole = sym (ap (λ done. done.words) (ok_same (written slot reach stubs a.0 b.0) made c.1));
    }
