-- The statuses of the API's replies.
use Rattle.std.proofs.Common.{refl, Result, Ok, Err}
use Rattle.std.specs.Prelude.{IsTrue}
use Rattle.ep_ask.specs.Replies.{status}
use Rattle.ep_ask.specs.declared.bad.ApiBad.{ApiBad}
use Rattle.ep_ask.specs.declared.bad.ApiBad.TheVariants as bad
use Rattle.ep_ask.specs.declared.answer.Data.{Data}
use Rattle.ep_http.specs.Replies.{is_status}

-- each is one that a reply may have
pub status-may : (o : Result Data ApiBad) → IsTrue (is_status (status o))
status-may (Ok d) = refl
status-may (Err bad.NotFound) = refl
status-may (Err bad.NoVersion) = refl
status-may (Err bad.NoFunction) = refl
status-may (Err bad.WrongKey) = refl
status-may (Err (bad.Missing p)) = refl
status-may (Err (bad.NotValid p)) = refl
status-may (Err bad.OfGroup) = refl
status-may (Err bad.NoGroupPad) = refl
status-may (Err (bad.NotNumber p)) = refl
status-may (Err (bad.NotBoolean p)) = refl
status-may (Err (bad.Unknown p)) = refl
status-may (Err (bad.Exists p)) = refl
status-may (Err bad.Past) = refl
status-may (Err bad.TooLong) = refl
status-may (Err bad.HighRev) = refl
status-may (Err bad.StoreFailed) = refl
status-may (Err bad.KeeperFailed) = refl
status-may (Err bad.KeptBroken) = refl
status-may (Err bad.JournalBroken) = refl
status-may (Err bad.JournalFull) = refl
status-may (Err bad.Pads) = refl
status-may (Err bad.IdsSpent) = refl
status-may (Err bad.NoMemory) = refl
