use Rattle.iloc_program.proofs.replies.write_refusal.Goals as goal

pub returns-in-InvalidLanguage-clause-text : goal.returns-in-InvalidLanguage-clause-text
returns-in-InvalidLanguage-clause-text g c =
    rw c.in-InvalidLanguage.is c.push_first.ensures.ok

pub returns-in-InvalidSubtag-clause-text : goal.returns-in-InvalidSubtag-clause-text
returns-in-InvalidSubtag-clause-text g c =
    rw c.in-InvalidSubtag.is c.push_first-in-InvalidSubtag.ensures.ok

pub returns-in-InvalidExtension-clause-text : goal.returns-in-InvalidExtension-clause-text
returns-in-InvalidExtension-clause-text g c =
    rw c.in-InvalidExtension.is c.push_first-in-InvalidExtension.ensures.ok
