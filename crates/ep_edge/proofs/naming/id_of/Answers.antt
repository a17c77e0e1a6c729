-- What was read in the digits is the pad whose file has the name.
use Rattle.std.proofs.Common.{◌∙◌, sym}
use Rattle.std.specs.Cmp.Lexicographic.{other_text}
use Rattle.ep_edge.proofs.Named.{spells, told_back}
use Rattle.ep_edge.proofs.naming.id_of.Goals as goal

pub returns-in_default-2-clause-each : goal.returns-in_default-2-clause-each
returns-in_default-2-clause-each c text bytes utf8 own named =
    sym c.in_default-2.is ∙ c.in_ok-id.ensures text (spells text _ _ bytes utf8 (c.as_bytes.ensures.value ∙ named) c.in-Some.ensures.cases.1) utf8 own

pub returns-then-eq-clause-each : goal.returns-then-eq-clause-each
returns-then-eq-clause-each c text bytes utf8 own named =
    sym c.in-Some-2.is ∙ c.in_ok-id.ensures text (spells text _ _ bytes utf8 (c.as_bytes.ensures.value ∙ named) c.in-Some.ensures.cases.1) utf8 own

pub returns-else-eq-clause-each : goal.returns-else-eq-clause-each
returns-else-eq-clause-each c text bytes utf8 own named =
    let read = sym c.in-Some-2.is ∙ c.in_ok-id.ensures text (spells text _ _ bytes utf8 (c.as_bytes.ensures.value ∙ named) c.in-Some.ensures.cases.1) utf8 own in
    let made = c.as_str.ensures.value ∙ c.in_ok-file_name.ensures in
    absurd (other_text _ _ c.if-eq.ensures (told_back text _ _ _ utf8 named read made))
