-- Subtrees: what lies in one has a key that begins with its key.
use Rattle.std.proofs.Common.{refl}
use Rattle.std.proofs.lemmas.Bool.{false≢true}
use Rattle.names.specs.GeneralLayout.{directory_base, dns_base, ip_base, other_base}
use Rattle.names.specs.GeneralCoverage.{is_base_inside}
use Rattle.names_order.specs.Order.{InsideBegins}
use Rattle.names_order.proofs.DomainTexts.{domains_begin}
use Rattle.names_order.proofs.BitKeys.{ranges_begin}

pub inside_begins : InsideBegins
unfolding is_base_inside
inside_begins (dns_base s) (dns_base t) h = domains_begin s t
inside_begins (ip_base s) (ip_base t) h = ranges_begin s t
inside_begins (dns_base s) (ip_base t) h = refl
inside_begins (dns_base s) (directory_base t) h = refl
inside_begins (dns_base s) (other_base n t) h = refl
inside_begins (ip_base s) (dns_base t) h = refl
inside_begins (ip_base s) (directory_base t) h = refl
inside_begins (ip_base s) (other_base n t) h = refl
inside_begins (directory_base s) t h = absurd (false≢true h)
inside_begins (other_base n s) t h = absurd (false≢true h)
