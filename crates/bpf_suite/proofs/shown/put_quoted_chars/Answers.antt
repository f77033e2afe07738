use Rattle.std.proofs.Common.{length, sym, ap, rules, flat_map}
use Rattle.std.proofs.lemmas.List.Elements.{All-same, All-head, All-rest}
use Rattle.bstr.proofs.lemmas.SpanLemmas.{IsWithin, All-char_spans}
use Rattle.bpfdb_script.proofs.Telling.{Telling-start, Telling-step, Telling-end}
use Rattle.bpf_suite.specs.Shown.{quoted_char}
use Rattle.bpf_suite.proofs.shown.put_quoted_chars.Goals as goal

pub chars-init : goal.chars-init
chars-init g c = record {
  within = All-same (IsWithin (length c.args.word.now)) _ _ c.char_indices-chars.ensures.value (All-char_spans c.args.word.now);
  tells = rw c.char_indices-chars.ensures.value (Telling-start _ _ _ _);
}

pub slice_bounds-quoted_as-count : goal.slice_bounds-quoted_as-count
slice_bounds-quoted_as-count g c =
    let P = IsWithin (length c.args.word.now) in
    (All-head P _ _ (All-same P _ _ (sym c.in-Some.ensures.steps) c.chars.invariant.within)).0

pub slice_bounds-quoted_as-start : goal.slice_bounds-quoted_as-start
slice_bounds-quoted_as-start g c =
    let P = IsWithin (length c.args.word.now) in
    let first = All-head P _ _ (All-same P _ _ (sym c.in-Some.ensures.steps) c.chars.invariant.within) in
    search rules

pub slice_bounds-quoted_as-end : goal.slice_bounds-quoted_as-end
slice_bounds-quoted_as-end g c =
    let P = IsWithin (length c.args.word.now) in
    let first = All-head P _ _ (All-same P _ _ (sym c.in-Some.ensures.steps) c.chars.invariant.within) in
    search rules

pub chars-preserved : goal.chars-preserved
chars-preserved g c = record {
  within = All-rest (IsWithin (length c.args.word.now)) _ _ _ c.in-Some.ensures.steps c.chars.invariant.within;
  tells =
      Telling-step _ _ _ _ _ _ _ _ _ _ _ c.chars.invariant.tells (rw c.quoted_as.ensures at c.put-told.ensures)
      (ap (flat_map (quoted_char c.args.word.now)) c.in-Some.ensures.steps);
}

pub returns : goal.returns
returns g c =
    Telling-end _ _ _ _ _ _ _ c.chars.invariant.tells (ap (flat_map (quoted_char c.args.word.now)) c.in_default.ensures.steps.0)
