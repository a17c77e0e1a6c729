use Rattle.ep_pad_file.proofs.Standing.{same_fault}
use Rattle.ep_pad_file.proofs.Telling.{held_length}
use Rattle.ep_pad_file.proofs.pad_file.PadFile.prepare.Goals as goal

pub returns-in_err-bytes-clause-machine : goal.returns-in_err-bytes-clause-machine
returns-in_err-bytes-clause-machine g c st most h same = same_fault st _ _ most (held_length _ _ _ st.records c.requires.ready.held h) same

pub returns-in_err-takes-clause-machine : goal.returns-in_err-takes-clause-machine
returns-in_err-takes-clause-machine g c st most h same = same_fault st _ _ most (held_length _ _ _ st.records c.requires.ready.held h) same

pub returns-in_err-framed-clause-machine : goal.returns-in_err-framed-clause-machine
returns-in_err-framed-clause-machine g c st most h same = same_fault st _ _ most (held_length _ _ _ st.records c.requires.ready.held h) same

pub returns-in_err-reserve-clause-machine : goal.returns-in_err-reserve-clause-machine
returns-in_err-reserve-clause-machine g c st most h same = same_fault st _ _ most (held_length _ _ _ st.records c.requires.ready.held h) same

pub returns-clause-machine : goal.returns-clause-machine
returns-clause-machine g c st most h same = same_fault st _ _ most (held_length _ _ _ st.records c.requires.ready.held h) same
