use Rattle.std.proofs.Common.{◌∙◌, subst, sym, List, ℕ}
use Rattle.ep_journal.specs.Held.{IsRecord}
use Rattle.ep_pad_file.proofs.Telling.{read_record}
use Rattle.ep_pad_file.proofs.pad_file.PadFile.read.Goals as goal

pub returns-in-Some-clause-records : goal.returns-in-Some-clause-records
returns-in-Some-clause-records g c rs h =
    let bytes = subst (λ (b : List ℕ). IsRecord (g.D.Disk.told c.args.self.now.journal.disk) c.args.i b) (sym c.deref.ensures.value) c.in-Ok.ensures.value in
    let r = read_record _ _ _ rs c.args.i c.deref.result.now h c.requires.ready.held c.requires.below bytes in
    r.1 ∙ sym (c.in_ok-entry.ensures.only r.0 r.2) ∙ c.in-Some.is

pub returns-clause-own : goal.returns-clause-own
returns-clause-own g c rs k h is =
    let bytes = subst (λ (b : List ℕ). IsRecord (g.D.Disk.told c.args.self.now.journal.disk) c.args.i b) (sym c.deref.ensures.value) c.in-Ok.ensures.value in
    let r = read_record _ _ _ rs c.args.i c.deref.result.now h c.requires.ready.held c.requires.below bytes in
    let found = c.in_ok-entry.ensures.only r.0 r.2 in
    absurd (cc)
