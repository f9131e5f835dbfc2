use Rattle.std.proofs.Common.{arith, ◌≡◌, ◌-◌, length, inl, inr, refl, take, drop, ap, ◌∙◌}
use Rattle.std.specs.Cmp.Lexicographic.{texts_ties}
use Rattle.iloc_spec_grammar.specs.Syntax.{is_same, upper}
use Rattle.iloc_normalize.proofs.Named.{put_all, put_head, put_part, put_whole}
use Rattle.iloc_normalize.proofs.data_writing.write_named.Goals as goal
use Rattle.iloc_normalize.proofs.data_writing.write_named.Goals.{then-not-is_same-via-then-not-is_same, then-not-is_same-via-else-not-is_same+then-is_whole-2}

pub returns-then-is_whole-clause-put : goal.returns-then-is_whole-clause-put
returns-then-is_whole-clause-put c =
    λ d x.
    put_whole c.args.text.bytes.now (length c.args.text.bytes.now - 16) c.args.head.now c.args.value.now d x
    c.region_start-start.result
    (c.region_start-start.ensures.start x.written x.head.words x.head.front) c.if-start-front.true _
    c.put_with_region-end.ensures.put
    c.is_whole.result c.is_whole.ensures c.if-is_whole.true

pub returns-then-start-front-clause-put : goal.returns-then-start-front-clause-put
returns-then-start-front-clause-put c =
    λ d x.
    put_part c.args.text.bytes.now (length c.args.text.bytes.now - 16) c.args.head.now c.args.value.now d x
    c.region_start-start.result
    (c.region_start-start.ensures.start x.written x.head.words x.head.front) c.if-start-front.true _
    c.put_with_region-end.ensures.put
    c.is_whole.result c.is_whole.ensures c.if-is_whole.false _ c.put_keyword.ensures.put

pub returns-then-not-is_same-clause-put : goal.returns-then-not-is_same-clause-put
unfolding upper
returns-then-not-is_same-clause-put c =
    λ d x.
    let w = c.args.text.bytes.now in
    let start = c.region_start-start.result in
    let front = c.args.head.now.front.end in
    let v = c.args.value.now in
    let piece : c.unwrap.result ≡ take (front - start) (drop start w) =
    grind arith in
    let agrees = c.eq-is_same.ensures ∙ texts_ties c.to_ascii_uppercase-region.result c.region_of.result
    ∙ ap (is_same c.to_ascii_uppercase-region.result) c.region_of.ensures in
    let found = c.region_start-start.ensures.start x.written x.head.words x.head.front in
    let bytes = c.to_ascii_uppercase-region.ensures ∙ ap upper piece in
    elim c.then-not-is_same.branch [
      | then-not-is_same-via-then-not-is_same b ↦
          put_head w (length c.args.text.bytes.now - 16) c.args.head.now v d x start found
          c.if-start-front.false
          c.to_ascii_uppercase-region.result bytes c.eq-is_same.result _ agrees refl
          (inl b.if-not-is_same.true) _ c.put_front.ensures
      | then-not-is_same-via-else-not-is_same+then-is_whole-2 b ↦
          put_head w (length c.args.text.bytes.now - 16) c.args.head.now v d
          x start found
          c.if-start-front.false c.to_ascii_uppercase-region.result bytes c.eq-is_same.result
          b.is_whole-else-not-is_same.result agrees
          b.is_whole-else-not-is_same.ensures (inr b.if-is_whole-2.true) _ c.put_front.ensures
    ]

pub returns-clause-put : goal.returns-clause-put
unfolding upper
returns-clause-put c =
    λ d x.
    let w = c.args.text.bytes.now in
    let start = c.region_start-start.result in
    let front = c.args.head.now.front.end in
    let v = c.args.value.now in
    let piece : c.unwrap.result ≡ take (front - start) (drop start w) =
    grind arith in
    let agrees = c.eq-is_same.ensures ∙ texts_ties c.to_ascii_uppercase-region.result c.region_of.result
    ∙ ap (is_same c.to_ascii_uppercase-region.result) c.region_of.ensures in
    put_all w (length c.args.text.bytes.now - 16) c.args.head.now v d x start
    (c.region_start-start.ensures.start x.written x.head.words x.head.front) c.if-start-front.false
    c.to_ascii_uppercase-region.result (c.to_ascii_uppercase-region.ensures
    ∙ ap upper piece) c.eq-is_same.result
    c.is_whole-else-not-is_same.result agrees c.is_whole-else-not-is_same.ensures c.if-not-is_same.false
    c.if-is_whole-2.false
    _ c.put_front.ensures _ c.put_keyword-2.ensures.put
