use Rattle.std.proofs.Common.{◌≡◌, map, refl, sym, ap, ◌∙◌, None}
use Rattle.std.proofs.Math.Facts.{to_z-of_z}
use Rattle.relying_agreement.specs.Verdict.{verdict_by}
use Rattle.relying_search.specs.View.{seen_evidence}
use Rattle.relying_verdicts.proofs.Differing.{same_of_none}
use Rattle.relying_verdicts.proofs.comparing.compare_evidence.Goals as goal

pub returns-in_default : goal.returns-in_default
returns-in_default c =
    let v : c.verdict_by-verdict.result ≡ verdict_by c.args.moment (map seen_evidence c.args.one.now) =
    c.verdict_by-verdict.ensures ∙ ap (λ m. verdict_by m (map seen_evidence c.args.one.now)) (to_z-of_z c.ranges.moment) in
    (sym v, same_of_none c.args.moment (map seen_evidence c.args.one.now) (map seen_evidence c.args.other.now) None refl c.in_default.ensures ∙ sym v)
