-- What contracts see of a directory behind a lock.
use Rattle.ep_cell.specs.Passes.{first_of}
use Rattle.ep_dir_records.specs.Answers.{Seen}
use Rattle.ep_house.specs.declared.directory.Directory.{Directory}

-- the directory as it began
abbrev pub begun_of : {K : Type 0} → Directory K → Seen
begun_of directory = first_of directory.cell
