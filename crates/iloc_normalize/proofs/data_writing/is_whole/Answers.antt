use Rattle.std.proofs.Common.{◌≡◌, ◌+◌, ◌-◌, ℕ, take, drop, length, sym, ap, ◌∙◌, arith}
use Rattle.std.specs.Cmp.Lexicographic.{pointwise, texts_ties}
use Rattle.std.specs.Prelude.{nat_eq}
use Rattle.std.proofs.lemmas.Bool.{false_from_ne_true}
use Rattle.std.proofs.lemmas.List.{length-drop, length-take-le}
use Rattle.iloc_spec_grammar.specs.Syntax.{lower}
use Rattle.iloc_spec_grammar.proofs.MapLaws.{same_is}
use Rattle.iloc_spec_grammar.proofs.WordsLaws.{length-lower}
use Rattle.iloc_spec_parts.specs.DataLocales.{whole}
use Rattle.iloc_normalize.specs.Subdivisions.{bytes_at}
use Rattle.iloc_normalize.proofs.data_writing.is_whole.Goals as goal

pub returns-then-value : goal.returns-then-value
returns-then-value c =
    let w = c.args.window.now in
    let v = c.args.value.now in
    let suffix = bytes_at w (v.at + v.region) (v.len - v.region) in
    let d = length-drop (v.at + v.region) w in
    let few = c.requires.few in
    let inside = c.requires.inside in
    let long : length suffix ≡ v.len - v.region =
    length-take-le (v.len - v.region) (drop (v.at + v.region) w) (omega arith) in
    sym (false_from_ne_true _ (λ e.
    let same : length (lower suffix) ≡ length whole = ap length (same_is (lower suffix) whole e) in
    let low = length-lower suffix in
    c.if-value.true (omega arith)))

pub returns : goal.returns
unfolding lower
returns c =
    let w = c.args.window.now in
    let v = c.args.value.now in
    let from = v.at + v.region in
    let same = c.if-value.false in
    let size : from + 4 - from ≡ v.len - v.region = omega arith in
    let piece : c.unwrap-suffix.result ≡ take (from + 4 - from) (drop from w) =
    grind arith in
    let other : c.unwrap.result ≡ whole =
    grind arith in
    let low = c.to_ascii_lowercase.ensures ∙ ap lower (piece ∙ ap (λ (n : ℕ). take n (drop from w)) size) in
    c.eq.ensures ∙ (λ j. pointwise nat_eq (low j) (other j))
    ∙ texts_ties (lower (bytes_at w from (v.len - v.region))) whole
