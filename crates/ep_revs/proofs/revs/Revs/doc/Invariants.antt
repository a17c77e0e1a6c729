use Rattle.ep_revs.proofs.revs.Revs.doc.Given as goal

abbrev pub ghosts-sought : goal.ghosts-sought
ghosts-sought a = record { name = a.blank.name; parts = a.blank.parts }
