use Rattle.std.proofs.Common.{refl, sym, ◌∙◌}
use Rattle.iloc_extensions.specs.ExtensionsValue.{value_of}
use Rattle.iloc_extensions.proofs.AnswerLemmas.{letter_refused, part_refused, block_at, no_unicode, no_transform, no_private}
use Rattle.iloc_extensions.proofs.blocks.read_block.Goals as goal

pub returns-then-not-is_ascii_alphanumeric-clause-reads :
    goal.returns-then-not-is_ascii_alphanumeric-clause-reads
returns-then-not-is_ascii_alphanumeric-clause-reads g c = λ start d.
    letter_refused d (sym c.is_ascii_alphanumeric.ensures.value ∙ c.if-not-is_ascii_alphanumeric.true)

pub returns-then-has_part-clause-reads : goal.returns-then-has_part-clause-reads
returns-then-has_part-clause-reads g c = λ start d. part_refused c.to_ascii_lowercase-ext.result d
    (sym c.is_ascii_alphanumeric.ensures.value ∙ c.if-not-is_ascii_alphanumeric.false)
    c.to_ascii_lowercase-ext.ensures.value (sym c.has_part.ensures ∙ c.if-has_part.true)

pub returns-in-117-clause-reads : goal.returns-in-117-clause-reads
returns-in-117-clause-reads g c =
    λ start d. c.take_unicode.ensures.reads start c.args.byte (value_of c.args.extensions.now)
    (block_at c.to_ascii_lowercase-ext.result d
    (sym c.is_ascii_alphanumeric.ensures.value ∙ c.if-not-is_ascii_alphanumeric.false)
    c.to_ascii_lowercase-ext.ensures.value (sym c.has_part.ensures ∙ c.if-has_part.false))
    (sym c.to_ascii_lowercase-ext.ensures.value ∙ c.in-117.is)

pub returns-in-116-clause-reads : goal.returns-in-116-clause-reads
returns-in-116-clause-reads g c =
    λ start d. c.take_transform.ensures.reads start c.args.byte (value_of c.args.extensions.now)
    (block_at c.to_ascii_lowercase-ext.result d
    (sym c.is_ascii_alphanumeric.ensures.value ∙ c.if-not-is_ascii_alphanumeric.false)
    c.to_ascii_lowercase-ext.ensures.value (sym c.has_part.ensures ∙ c.if-has_part.false))
    (sym c.to_ascii_lowercase-ext.ensures.value ∙ c.in-116.is)

pub returns-in-120-clause-reads : goal.returns-in-120-clause-reads
returns-in-120-clause-reads g c =
    λ start d. c.take_private.ensures.reads start c.args.byte (value_of c.args.extensions.now)
    (block_at c.to_ascii_lowercase-ext.result d
    (sym c.is_ascii_alphanumeric.ensures.value ∙ c.if-not-is_ascii_alphanumeric.false)
    c.to_ascii_lowercase-ext.ensures.value (sym c.has_part.ensures ∙ c.if-has_part.false))
    (sym c.to_ascii_lowercase-ext.ensures.value ∙ c.in-120.is)

pub returns-in_default-clause-reads : goal.returns-in_default-clause-reads
returns-in_default-clause-reads g c =
    λ start d. c.take_other.ensures.reads start c.args.byte (value_of c.args.extensions.now)
    (block_at c.to_ascii_lowercase-ext.result d
    (sym c.is_ascii_alphanumeric.ensures.value ∙ c.if-not-is_ascii_alphanumeric.false)
    c.to_ascii_lowercase-ext.ensures.value (sym c.has_part.ensures ∙ c.if-has_part.false))
    (sym c.to_ascii_lowercase-ext.ensures.value) refl

pub take_unicode-requires : goal.take_unicode-requires
take_unicode-requires g c =
    let none = no_unicode (value_of c.args.extensions.now) c.to_ascii_lowercase-ext.result c.in-117.is
    (sym c.has_part.ensures ∙ c.if-has_part.false) in
    record { keywords = none.1; attributes = none.0 }

pub take_transform-requires : goal.take_transform-requires
take_transform-requires g c =
    let none = no_transform (value_of c.args.extensions.now) c.args.extensions.now.transform
    c.to_ascii_lowercase-ext.result refl c.in-116.is (sym c.has_part.ensures ∙ c.if-has_part.false) in
    record { lang = none.0; fields = none.1 }

pub take_private-requires : goal.take_private-requires
take_private-requires g c = no_private (value_of c.args.extensions.now) c.to_ascii_lowercase-ext.result
    c.in-120.is (sym c.has_part.ensures ∙ c.if-has_part.false)
