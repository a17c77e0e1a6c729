-- Working words of private contracts: what each call of the directory answers, where it is not refused.
use Rattle.ep_groups.specs.declared.entries.DirEntry.{DirEntry}
use Rattle.ep_groups.specs.declared.entries.DirEntry.TheVariants as entry

-- it answers an id or a name
abbrev pub HasText : DirEntry → Type 0
HasText (entry.CreateGroup _) = Unit {0}
HasText (entry.GroupFor _ _) = Unit {0}
HasText (entry.CreateAuthor _ _) = Unit {0}
HasText (entry.AuthorFor _ _ _) = Unit {0}
HasText (entry.AuthorName _) = Unit {0}
HasText (entry.CreateSession _) = Unit {0}
HasText (entry.ReadOnly _ _) = Unit {0}
HasText _ = ⊥

-- it answers nothing more than that it is done
abbrev pub IsDone : DirEntry → Type 0
IsDone (entry.DeleteGroup _) = Unit {0}
IsDone (entry.DropGroupPad _) = Unit {0}
IsDone (entry.DeleteSession _) = Unit {0}
IsDone _ = ⊥

-- it answers sessions
abbrev pub HasSessions : DirEntry → Type 0
HasSessions (entry.SessionsOfGroup _) = Unit {0}
HasSessions (entry.SessionsOfAuthor _) = Unit {0}
HasSessions _ = ⊥

-- it answers ids
abbrev pub HasTexts : DirEntry → Type 0
HasTexts entry.Groups = Unit {0}
HasTexts _ = ⊥

-- it answers a pad
abbrev pub HasPad : DirEntry → Type 0
HasPad (entry.AddGroupPad _ _) = Unit {0}
HasPad _ = ⊥

-- it answers pads
abbrev pub HasPads : DirEntry → Type 0
HasPads (entry.GroupPads _) = Unit {0}
HasPads _ = ⊥

-- it answers a session
abbrev pub HasSession : DirEntry → Type 0
HasSession (entry.Session _) = Unit {0}
HasSession _ = ⊥

-- it answers a grant
abbrev pub HasGrant : DirEntry → Type 0
HasGrant (entry.Grant _) = Unit {0}
HasGrant _ = ⊥
