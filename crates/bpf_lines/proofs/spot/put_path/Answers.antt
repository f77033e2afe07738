use Rattle.std.proofs.Common.{ℕ, ◌≡◌, ◌++◌, ap, append_assoc, refl, sym, ◌∙◌, add-one, arith}
use Rattle.counted_io.proofs.Appending.{Writes-text, WritesAfter-WritesAfter}
use Rattle.bpf_link.specs.Names.{built}
use Rattle.bpf_btf.specs.Types.{Types}
use Rattle.bpf_lines.specs.declared.spot.Spot.{Spot}
use Rattle.bpf_lines.specs.Spots.{inside, part_at, path_text, rest_text, spot_in, with_part}
use Rattle.bpfdb_script.proofs.Telling.{WritesAfter-nothing}
use Rattle.bpf_lines.proofs.spot.put_path.Goals as goal

pub loop-init : goal.loop-init
loop-init g c = record { at = refl; written = WritesAfter-nothing g.W.Write.contents c.args.writer.now c.args.so_far }

pub loop-preserved : goal.loop-preserved
loop-preserved g c =
    let types = c.args.types.now in
    let at = c.loop.invariant.at in
    let part = c.part_at-part.ensures ∙ ap (part_at types) at in
    record {
      at = c.inside-at.ensures ∙ ap (inside c.loop.at) part ∙ ap (λ s. inside s (part_at types (spot_in types c.args.spot c.loop.counter))) at
          ∙ ap (spot_in types c.args.spot) (sym (add-one c.loop.counter));
      written = WritesAfter-WritesAfter g.W.Write.contents _ _ _ _ _ _ _ _ _ c.loop.invariant.written
          (rw (part, c.strings.ensures) at c.put_part-told.ensures)
          (ap (built (with_part types c.args.spot)) (sym (add-one c.loop.counter)));
    }

-- all of the text
path_is : (types : Types) (spot at : Spot) (n : ℕ) → n ≡ 32 → at ≡ spot_in types spot n
    → built (with_part types spot) n ++ rest_text at.offset ≡ path_text types spot
unfolding path_text
path_is types spot at n end is = rw (is, end) refl

pub returns : goal.returns
returns g c = λ first front known.
    let told = c.loop.invariant.written first front known in
    let end : c.loop.counter ≡ 32 = omega arith in
    Writes-text g.W.Write.contents _ _ _ _ _ (c.put_rest.ensures first _ told)
    (append_assoc front _ _ ∙ ap (λ text. front ++ text) (path_is c.args.types.now c.args.spot c.loop.at c.loop.counter end c.loop.invariant.at))
