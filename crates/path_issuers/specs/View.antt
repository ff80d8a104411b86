-- What is searched, as plain data.
use Rattle.std.specs.Prelude.{map}
use Rattle.std.specs.Option.{option_copied}
use Rattle.cert.specs.Certificate.{seen_certificate}
use Rattle.path_issuers.specs.Search.{Search}
use Rattle.path_issuers.specs.declared.search.Search as code

abbrev pub seen_search : code.Search → Search
seen_search search = record {
  anchors = map seen_certificate search.anchors.now;
  bag = map seen_certificate search.bag.now;
  target = seen_certificate search.target.now;
  moment = search.moment;
  purpose = option_copied search.purpose;
  options = search.options;
}
