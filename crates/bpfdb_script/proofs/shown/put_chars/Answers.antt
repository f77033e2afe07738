use Rattle.std.proofs.Common.{length, sym, ap, rules, flat_map}
use Rattle.std.proofs.lemmas.List.Elements.{All-same, All-head, All-rest}
use Rattle.bstr.proofs.lemmas.SpanLemmas.{IsWithin, All-char_spans}
use Rattle.bpfdb_script.proofs.Telling.{Telling-start, Telling-step, Telling-end}
use Rattle.bpfdb_script.specs.Shown.{shown_span}
use Rattle.bpfdb_script.proofs.shown.put_chars.Goals as goal

pub chars-init : goal.chars-init
chars-init g c = record {
  within = All-same (IsWithin (length c.args.text.now)) _ _ c.char_indices-chars.ensures.value (All-char_spans c.args.text.now);
  tells = rw c.char_indices-chars.ensures.value (Telling-start _ _ _ _);
}

pub slice_bounds-put_char-count : goal.slice_bounds-put_char-count
slice_bounds-put_char-count g c =
    let P = IsWithin (length c.args.text.now) in
    (All-head P _ _ (All-same P _ _ (sym c.in-Some.ensures.steps) c.chars.invariant.within)).0

pub slice_bounds-put_char-start : goal.slice_bounds-put_char-start
slice_bounds-put_char-start g c =
    let P = IsWithin (length c.args.text.now) in
    let first = All-head P _ _ (All-same P _ _ (sym c.in-Some.ensures.steps) c.chars.invariant.within) in
    search rules

pub slice_bounds-put_char-end : goal.slice_bounds-put_char-end
slice_bounds-put_char-end g c =
    let P = IsWithin (length c.args.text.now) in
    let first = All-head P _ _ (All-same P _ _ (sym c.in-Some.ensures.steps) c.chars.invariant.within) in
    search rules

pub chars-preserved : goal.chars-preserved
chars-preserved g c = record {
  within = All-rest (IsWithin (length c.args.text.now)) _ _ _ c.in-Some.ensures.steps c.chars.invariant.within;
  tells =
      Telling-step _ _ _ _ _ _ _ _ _ _ _ c.chars.invariant.tells (rw c.is_as_it_is-as_is.ensures at c.put_char-told.ensures)
      (ap (flat_map (shown_span c.args.lines c.args.text.now)) c.in-Some.ensures.steps);
}

pub returns : goal.returns
returns g c =
    Telling-end _ _ _ _ _ _ _ c.chars.invariant.tells (ap (flat_map (shown_span c.args.lines c.args.text.now)) c.in_default.ensures.steps.0)
