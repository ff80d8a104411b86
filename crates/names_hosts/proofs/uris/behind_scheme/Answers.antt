use Rattle.std.proofs.Common.{[], ◌∷◌}
use Rattle.std.proofs.lemmas.Bool.{both_ways}
use Rattle.std.proofs.lemmas.Bool.Decides.{Decides-eqb}
use Rattle.std.proofs.lemmas.Slice.Eq.{strip_prefix_is}
use Rattle.names_hosts.proofs.UriTexts.{no_scheme, scheme_cut, stripped_one}
use Rattle.names_hosts.proofs.uris.behind_scheme.Goals as goal

pub returns-then-not-is_scheme-clause-accepts : goal.returns-then-not-is_scheme-clause-accepts
returns-then-not-is_scheme-clause-accepts c = λ rest b.
    absurd (both_ways _ c.if-not-is_scheme.true
    (c.is_scheme.ensures.1 (no_scheme c.args.uri.now rest c.cut.result.0.now c.cut.result.1.now b c.cut.ensures)))

pub returns-clause-accepts : goal.returns-clause-accepts
returns-clause-accepts c = λ rest b.
    let more = c.cut.result.1.now in
    let prefix = 58 ∷ 47 ∷ 47 ∷ [] in
    stripped_one more rest c.strip_prefix.result
    (strip_prefix_is Decides-eqb more prefix c.strip_prefix.result c.strip_prefix.ensures.cases)
    (scheme_cut c.args.uri.now rest c.cut.result.0.now more b c.cut.ensures).1
