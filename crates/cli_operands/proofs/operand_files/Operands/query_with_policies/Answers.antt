use Rattle.std.proofs.Common.{◌+◌, ℕ, List, arith, inl, inr, subst}
use Rattle.std.proofs.lemmas.Result.{err_from_is_err_and}
use Rattle.path.specs.Reading.{seen_query}
use Rattle.path_with_policies.specs.Asking.{IsFirstMalformed}
use Rattle.cli_operands.specs.Policies.{IsToldAmong}
use Rattle.cli_operands.specs.declared.path_file.PathFile.{PathFile}
use Rattle.cli_operands.proofs.operand_files.Operands.query_with_policies.Goals as goal

pub returns-in_err-query-clause-fails : goal.returns-in_err-query-clause-fails
returns-in_err-query-clause-fails c =
    let p = err_from_is_err_and c.from_residual.result c.from_residual.ensures.1 in
    rw (p.1, p.2) (inl c.in_err-query.ensures.fails)

pub returns-in-Err-clause-fails : goal.returns-in-Err-clause-fails
returns-in-Err-clause-fails c =
    let asks = c.in_ok-query.ensures.asks in
    let query = seen_query c.in_ok-query.query in
    let fault = c.in-Err.refusal.fault in
    let refused = c.in-Err.ensures.refused in
    let told = subst (λ (files : List PathFile). IsToldAmong files refused.index fault c.failure_among.result) c.as_slice.ensures.value
    (subst (λ (index : ℕ). IsToldAmong c.as_slice.result.now index fault c.failure_among.result) (omega (arith, refused.number)) c.failure_among.ensures) in
    inr (
      (query, asks),
      (query, fault, refused.index, asks.path_is, asks.all, subst (λ (j : ℕ). IsFirstMalformed query.certificates j fault) refused.number refused, told),
    )
