use Rattle.std.proofs.Common.{List, map, Ok, ap, sym, ◌∙◌}
use Rattle.std.proofs.lemmas.Result.{err_from_is_err_and}
use Rattle.cert.specs.ExtensionValues.{seen_values}
use Rattle.cert_hosts.specs.declared.base.Base.{Base}
use Rattle.cert_hosts.specs.Bases.{seen_base}
use Rattle.cert_hosts.proofs.WalkedBases.{gives_fault, gives_lists}
use Rattle.cert_hosts.proofs.base_lists.BaseLists.read.Goals as goal

pub returns-in_err-bases : goal.returns-in_err-bases
returns-in_err-bases c =
    let p = err_from_is_err_and c.from_residual.result c.from_residual.ensures.1 in
    rw (p.1, p.2) (gives_fault (seen_values c.args.values.now) c.in_err-bases.field-0.0 c.in_err-bases.ensures)

pub returns : goal.returns
returns c =
    gives_lists (seen_values c.args.values.now) (map seen_base c.deref.result.now) c.of_bases.result
    (c.in_ok-bases.ensures ∙ ap (λ (l : List Base). Ok (map seen_base l)) (sym c.deref.ensures.value))
    c.of_bases.ensures.reads c.of_bases.ensures.refused
