use Rattle.std.proofs.Common.{◌∙◌, refl}
use Rattle.std.proofs.lemmas.Bool.{false≢true}
use Rattle.path_conditions.proofs.NarrowedLists.{no_directory, no_dns, no_ip, constraints_are, excluded_are}
use Rattle.path_conditions.proofs.constraints.Constraints.narrow.Goals as goal

pub returns-in_err-directory-clause-calm : goal.returns-in_err-directory-clause-calm
returns-in_err-directory-clause-calm c = λ none. absurd (false≢true (c.in_err-directory.ensures.calm (rw c.deref.ensures.value (no_directory _ none.permitted))))

pub returns-in_err-dns-clause-calm : goal.returns-in_err-dns-clause-calm
returns-in_err-dns-clause-calm c = λ none. absurd (false≢true (c.in_err-dns.ensures.calm (rw c.deref-2.ensures.value (no_dns _ none.permitted))))

pub returns-in_err-ip-clause-calm : goal.returns-in_err-ip-clause-calm
returns-in_err-ip-clause-calm c = λ none. absurd (false≢true (c.in_err-ip.ensures.calm (rw c.deref-3.ensures.value (no_ip _ none.permitted))))

pub returns-clause-ok : goal.returns-clause-ok
returns-clause-ok c =
    let directory = rw c.deref.ensures.value at c.in_ok-directory.ensures.value in
    let dns = rw c.deref-2.ensures.value at c.in_ok-dns.ensures.value in
    let ip = rw c.deref-3.ensures.value at c.in_ok-ip.ensures.value in
    let excluded = rw c.deref-4.ensures.value at c.in_ok-exclude.ensures.ok in
    record {
      lists = constraints_are _ _
          (c.replace.ensures ∙ directory)
          (c.replace-2.ensures ∙ dns)
          (c.replace-3.ensures ∙ ip)
          (excluded_are _ _ _ excluded)
          refl;
      hosts = c.in_ok-exclude.ensures.narrowed;
    }
