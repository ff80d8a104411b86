use Rattle.std.proofs.Common.{◌∷◌, ◌∙◌, ap, append-nil}
use Rattle.asn.specs.NumberLaws.{number_octets}
use Rattle.cli_listing.proofs.number.with_zero.Goals as goal

pub returns : goal.returns
returns c =
    ap (λ more. 0 ∷ more) (append-nil c.copy_from_slice.new.self ∙ c.copy_from_slice.ensures.after ∙ c.is_spelled.ensures ∙ ap (number_octets 20) c.to_octets-spelled.ensures)
