-- What is handed out and what is refused, of a text that is answered without a value.
use Rattle.std.proofs.Common.{◌≡◌, ◌<◌, ℕ, length, length-take-le, refl, sym, ap, ◌∙◌, arith}
use Rattle.std.proofs.lemmas.Bool.Decides.{nat_tests}
use Rattle.iloc_spec_grammar.specs.Values.{identifier_text}
use Rattle.iloc_writeable.specs.Hints.{saturated}
use Rattle.iloc_pieces.specs.Plain.{AreWords, IsPlain, value_of}
use Rattle.iloc_pieces.specs.declared.plain.Plain.{Plain}
use Rattle.iloc_normalize.proofs.PlainAnswers.{plain_normal}
use Rattle.iloc_normalize.specs.declared.Mode.{Mode}
use Rattle.iloc_calls.specs.Answers.{HandsOut, NormalizesTo}
use Rattle.iloc_calls.specs.declared.status.Status.{Status}
use Rattle.iloc_calls.specs.declared.status.Status.TheVariants.{Done, InvalidLanguage, InvalidSubtag, InvalidExtension, DuplicatedExtension, OutOfMemory, BufferTooSmall, UnknownNumber, NotFound}
use Rattle.iloc_normalize.specs.Modes.{IsNormalText}
use Rattle.iloc_spec_grammar.specs.Syntax.{Text, languages}

-- what hands out the normal text normalizes
pub handed_out : (mode : Mode) (t normal before after : Text) (needed : ℕ) (s : Status) →
    IsNormalText languages mode t normal
    → HandsOut normal before after needed s → NormalizesTo mode t before after needed s
handed_out mode t normal before after needed Done n h = (normal, n, h)
handed_out mode t normal before after needed BufferTooSmall n h = (normal, n, h)
handed_out mode t normal before after needed InvalidLanguage n h = absurd h
handed_out mode t normal before after needed InvalidSubtag n h = absurd h
handed_out mode t normal before after needed InvalidExtension n h = absurd h
handed_out mode t normal before after needed DuplicatedExtension n h = absurd h
handed_out mode t normal before after needed OutOfMemory n h = absurd h
handed_out mode t normal before after needed UnknownNumber n h = absurd h
handed_out mode t normal before after needed NotFound n h = absurd h

-- how long the normal text of a plain text is
plain_length : (p : Plain) → AreWords p → length (identifier_text (value_of p)) ≡ p.len
plain_length p h = ap length (sym h.normal) ∙ length-take-le p.len p.bytes (omega (arith, h.wide, h.fits))

-- a plain text for which there is too little room
pub withheld : (mode : Mode) (t : Text) (p : Plain) (before : Text) (needed : ℕ) → IsPlain t p →
    length before < p.len → needed ≡ p.len
    → NormalizesTo mode t before before needed BufferTooSmall
withheld mode t p before needed h few is =
    let long = plain_length p h.words in
    let fits = h.words.fits in
    let same : saturated p.len ≡ p.len = grind (arith, nat_tests) in
    let less : length before < length (identifier_text (value_of p)) = omega (arith, long, few) in (
      identifier_text (value_of p),
      plain_normal mode t p h,
      (less, is ∙ sym same ∙ ap saturated (sym long), refl),
    )
