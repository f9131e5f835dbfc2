use Rattle.std.proofs.Common.{◌≡◌, take, ◌∙◌, rules}
use Rattle.iloc_spec_grammar.specs.Syntax.{pieces}
use Rattle.iloc_pieces.specs.Plain.{value_of}
use Rattle.iloc_langid.proofs.PlainLemmas.{front_of_meaning}
use Rattle.iloc_langid.proofs.plain.plain_parts.Goals as goal

pub returns : goal.returns
returns c =
    let i = value_of c.in_ok-plain.plain in
    let script : c.map.result ≡ i.script = search rules in
    let region : c.map-2.result ≡ i.region = search rules in
    let meant = c.in_ok-plain.ensures in
    front_of_meaning (pieces (take c.args.len c.args.v)) i meant.means meant.no_variant _
    (c.subtag_of_normal.ensures ∙ c.language.ensures) script region
