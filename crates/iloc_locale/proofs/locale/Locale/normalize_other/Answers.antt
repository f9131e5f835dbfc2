use Rattle.std.specs.Prelude.{◌≢◌, ⊤}
use Rattle.std.proofs.Common.{Err, length}
use Rattle.iloc_memory.specs.Refusals.{RefusedWithin}
use Rattle.iloc_word_list.proofs.RoomLemmas.{runs_out_more}
use Rattle.iloc_locale.specs.LocaleReading.{IsNormalizedLocale}
use Rattle.iloc_locale.proofs.NormalLemmas.{answered_text, answered_other, normal_within}
use Rattle.iloc_normalize.proofs.AsciiLemmas.{normal_utf8}
use Rattle.iloc_normalize.proofs.NormalLemmas.{normal_text, refusal, refusal_is_no_want, refused, runs_out}
use Rattle.iloc_normalize.specs.declared.Mode.TheVariants.{Locale, Data}
use Rattle.iloc_locale.proofs.locale.Locale.normalize_other.Goals as goal

other : Locale ≢ Data
other is = cc

pub text_of-requires : goal.text_of-requires
text_of-requires g c =
    normal_utf8 Locale other c.args.input.now c.in-Normal.normal.now c.in-Normal.ensures.answered

pub returns-in-Normal-clause-ok : goal.returns-in-Normal-clause-ok
returns-in-Normal-clause-ok g c =
    let t = c.args.input.now in
    normal_text Locale t (IsNormalizedLocale t) (answered_text t) c.text_of.result
    (c.text_of.ensures.normal Locale c.in-Normal.ensures.answered)

pub returns-in-Normal-clause-err : goal.returns-in-Normal-clause-err
returns-in-Normal-clause-err g c =
    refused Locale c.args.input.now c.text_of.result
    (c.text_of.ensures.normal Locale c.in-Normal.ensures.answered)

pub returns-in-Normal-clause-memory : goal.returns-in-Normal-clause-memory
returns-in-Normal-clause-memory g c =
    runs_out Locale c.args.input.now (answered_other c.args.input.now) c.text_of.result
    (c.text_of.ensures.normal Locale c.in-Normal.ensures.answered)

pub returns-in-Refused-clause-err : goal.returns-in-Refused-clause-err
returns-in-Refused-clause-err g c =
    refused {Z = ⊤} Locale c.args.input.now (Err c.in-Refused.refusal)
    (refusal ⊤ Locale c.args.input.now c.in-Refused.refusal c.in-Refused.ensures.answered)

pub returns-in-Refused-clause-memory : goal.returns-in-Refused-clause-memory
returns-in-Refused-clause-memory g c =
    runs_out {Z = ⊤} Locale c.args.input.now (answered_other c.args.input.now) (Err c.in-Refused.refusal)
    (refusal ⊤ Locale c.args.input.now c.in-Refused.refusal c.in-Refused.ensures.answered)

pub returns-in-Normal-clause-out_of_memory : goal.returns-in-Normal-clause-out_of_memory
returns-in-Normal-clause-out_of_memory g c =
    runs_out_more g.M.Memory.refused _ (length c.args.input.now)
    (normal_within c.args.input.now c.in-Normal.normal.now c.in-Normal.ensures.answered) c.text_of.result
    c.text_of.ensures.out_of_memory

pub returns-in-Refused-clause-out_of_memory : goal.returns-in-Refused-clause-out_of_memory
returns-in-Refused-clause-out_of_memory g c =
    refusal_is_no_want ⊤ (RefusedWithin g.M.Memory.refused (length c.args.input.now)) Locale c.args.input.now
    c.in-Refused.refusal c.in-Refused.ensures.answered
