use Rattle.std.proofs.Common.{◌≡◌, [], ◌∷◌, rules}
use Rattle.bpf_lines.proofs.objects.first_lines.Goals as goal

pub returns-in-Ok-push-clause-ok : goal.returns-in-Ok-push-clause-ok
returns-in-Ok-push-clause-ok c =
    let pushed : c.push.new.self.items ≡ c.in-Ok.own ∷ [] = search rules in
    (c.in-Ok.own, c.in-Ok.ensures.ok, pushed)
