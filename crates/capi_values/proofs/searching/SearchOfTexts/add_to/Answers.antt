use Rattle.std.proofs.Common.{◌++◌, [], ◌∷◌, List, ap, ◌∙◌, append_assoc}
use Rattle.std.proofs.lemmas.Result.{err_from_is_err_and}
use Rattle.path.specs.InProfile.{certificate_in}
use Rattle.statements_facts.specs.declared.profile.Profile.{Profile}
use Rattle.statements_facts.specs.declared.profile.Profile.TheVariants.{Stated}
use Rattle.capi_values.specs.Searching.{search_certificates}
use Rattle.capi_values.specs.Texts.{Reading, all_seen, octets_of_texts, profile_of, readings, readings_under}
use Rattle.capi_values.proofs.Gathering.{in_order, with_more}
use Rattle.capi_values.proofs.searching.SearchOfTexts.add_to.Goals as goal

pub returns-in_err-add_certificates-clause-refuses : goal.returns-in_err-add_certificates-clause-refuses
returns-in_err-add_certificates-clause-refuses c =
    let search = c.args.self.now in
    let old = all_seen c.args.certificates.now.items in
    let anchors = readings_under Stated (octets_of_texts search.anchors.now) in
    let others = readings_under (profile_of search.wide) (search.target.octets.now ∷ octets_of_texts search.bag.now) in
    let p = err_from_is_err_and c.from_residual.result c.from_residual.ensures.1 in
    rw (p.1, p.2) (with_more (old ++ anchors) others (old ++ readings (search_certificates search)) _ (append_assoc old anchors others)
    c.in_err-add_certificates.ensures.refuses)

pub returns-in_err-add_certificates-2-clause-refuses : goal.returns-in_err-add_certificates-2-clause-refuses
returns-in_err-add_certificates-2-clause-refuses c =
    let search = c.args.self.now in
    let old = all_seen c.args.certificates.now.items in
    let anchors = readings_under Stated (octets_of_texts search.anchors.now) in
    let now = all_seen c.add_certificates.new.certificates.items in
    let target = search.target.octets.now ∷ [] in
    let bag = readings_under (profile_of search.wide) (octets_of_texts search.bag.now) in
    let asked = c.profile_of-profile.result in
    let order =
    ap (λ (front : List Reading). front ++ readings_under asked target ++ bag) c.in_ok-add_certificates.ensures.reads
    ∙ ap (λ (it : Profile). old ++ anchors ++ readings_under it target ++ bag) c.profile_of-profile.ensures
    ∙ in_order old anchors (certificate_in (profile_of search.wide) search.target.octets.now) bag in
    let p = err_from_is_err_and c.from_residual-in_err-add_certificates-2.result c.from_residual-in_err-add_certificates-2.ensures.1 in
    rw (p.1, p.2) (with_more (now ++ readings_under asked target) bag (old ++ readings (search_certificates search)) _ order
    c.in_err-add_certificates-2.ensures.refuses)
