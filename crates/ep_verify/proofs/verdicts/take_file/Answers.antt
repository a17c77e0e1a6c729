use Rattle.std.proofs.Common.{sym, subst, Option}
use Rattle.ep_outside.specs.Disk.{Contents}
use Rattle.ep_verify.specs.Files.{IsFile}
use Rattle.ep_verify.proofs.Telling.{read_is_told}
use Rattle.ep_verify.proofs.verdicts.take_file.Goals as goal

pub returns-clause-files : goal.returns-clause-files
returns-clause-files g c told same h =
    let read : IsFile (told c.args.name) c.in_ok-bytes.bytes.items = subst (λ (o : Option Contents). IsFile o c.in_ok-bytes.bytes.items) (sym same)
    (read_is_told _ _ _ c.in_ok-disk.ensures.holds (subst (λ (o : Option Contents). IsFile o c.in_ok-bytes.bytes.items) c.in_ok-measured.ensures.told c.in_ok-bytes.ensures.value)) in
    c.in_ok-start.ensures.told told (c.in_ok-make_room.ensures.told told h) read
