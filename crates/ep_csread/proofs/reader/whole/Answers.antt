use Rattle.std.proofs.Common.{◌∙◌, ap, sym, List, None, Result, Ok}
use Rattle.ep_cs.specs.Change.{Change, change_of}
use Rattle.ep_cs.specs.declared.op.Op.{Op}
use Rattle.ep_csread.specs.declared.bad.ReadBad.{ReadBad}
use Rattle.ep_csread.proofs.Checked.{cut_is, cut_found, cut_nowhere}
use Rattle.ep_csread.proofs.Pieces.{are_pieces}
use Rattle.ep_csread.specs.Before.{first_cut}
use Rattle.ep_csread.proofs.reader.whole.Goals as goal

abbrev okay : Change → Result Change ReadBad
okay x = Ok x

pub returns-in-Some : goal.returns-in-Some
returns-in-Some c =
    cut_found c.args.ops.items c.args.bank.now (change_of c.args.old_len c.args.ops.items c.args.bank.now) c.in-Some.at c.requires.well_formed c.requires.whole
    (c.in-Some.ensures ∙ ap (λ (os : List Op). first_cut 0 None os c.args.bank.now) c.deref.ensures.value)

pub built-requires-clause-pieces : goal.built-requires-clause-pieces
built-requires-clause-pieces c =
    are_pieces c.args.old_len c.args.ops.items c.args.bank.now
    (cut_is c.args.ops.items c.args.bank.now c.requires.well_formed c.requires.whole ∙ sym (c.in_default.ensures ∙ ap (λ (os : List Op). first_cut 0 None os c.args.bank.now) c.deref.ensures.value))

pub returns : goal.returns
returns c =
    cut_nowhere c.args.ops.items c.args.bank.now (change_of c.args.old_len c.args.ops.items c.args.bank.now) c.requires.well_formed c.requires.whole
    (c.in_default.ensures ∙ ap (λ (os : List Op). first_cut 0 None os c.args.bank.now) c.deref.ensures.value)
    ∙ ap okay (sym c.in_ok-built.ensures)
