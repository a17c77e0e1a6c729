-- The last call of a legal history has a reply of its kind.
use Rattle.std.proofs.Common.{◌≡◌, List, [], ◌∷◌, ◌++◌, refl, ap, ◌∙◌, subst, Bool}
use Rattle.std.proofs.lemmas.List.{map-append}
use Rattle.ep_dir_records.specs.Answers.{Seen}
use Rattle.ep_cell.specs.declared.view.Call.{Call}
use Rattle.ep_cell.specs.History.{call, pairs}
use Rattle.ep_cell.specs.Passes.{Known, Makes}
use Rattle.ep_groups.specs.declared.entries.DirEntry.{DirEntry}
use Rattle.ep_groups.specs.declared.entries.DirReply.{DirReply}
use Rattle.ep_groups.specs.declared.entries.DirEntry.TheVariants as entry
use Rattle.ep_groups.specs.declared.entries.DirReply.TheVariants as reply
use Rattle.ep_groups.specs.History.{Step, Runs, IsLegal}
use Rattle.ep_house.specs.Replies.{HasGrant, HasPad, HasPads, HasSession, HasSessions, HasText, HasTexts, IsDone}

last_step : (first last : Seen) (h : List (DirEntry × DirReply)) (e : DirEntry) (r : DirReply) → Runs first (h ++ (e, r) ∷ []) last → (old : Seen) × ((now : Seen) × Step old now e r)
last_step first last [] e r p = (first, (p.0, p.1))
last_step first last (c ∷ cs) e r p = last_step p.0 last cs e r p.3

-- the last call of a pass was a step
pub was_step : {K : Type 0} (always_tells : K → Bool) (first : Seen) (v w : Known DirEntry DirReply) (e : DirEntry) (r : DirReply) → Makes v e r w → IsLegal always_tells first (pairs w.seen) → (old : Seen) × ((now : Seen) × Step old now e r)
was_step always_tells first v w e r makes legal =
    let x = makes.extends in
    let whole : pairs w.seen ≡ pairs (v.seen ++ x.0) ++ (e, r) ∷ [] = ap pairs x.1 ∙ map-append (λ (c : Call DirEntry DirReply). (c.entry, c.reply)) (v.seen ++ x.0) (call v.number e r ∷ []) in
    let l = subst (IsLegal always_tells first) whole legal in
    last_step first l.0 (pairs (v.seen ++ x.0)) e r l.1.1

-- these calls have no other reply
pub text_only : (old now : Seen) (e : DirEntry) (r : DirReply) → HasText e → Step old now e r → ((x : _) → r ≡ reply.Text x → ⊥) → ⊥
text_only old now (entry.CreateGroup d) (reply.Text x) k s none = none x refl
text_only old now (entry.CreateGroup d) _ k s none = s
text_only old now (entry.GroupFor m d) (reply.Text x) k s none = none x refl
text_only old now (entry.GroupFor m d) _ k s none = s
text_only old now (entry.CreateAuthor n d) (reply.Text x) k s none = none x refl
text_only old now (entry.CreateAuthor n d) _ k s none = s
text_only old now (entry.AuthorFor m n d) (reply.Text x) k s none = none x refl
text_only old now (entry.AuthorFor m n d) _ k s none = s
text_only old now (entry.AuthorName a) (reply.Text x) k s none = none x refl
text_only old now (entry.AuthorName a) _ k s none = s
text_only old now (entry.CreateSession a) (reply.Text x) k s none = none x refl
text_only old now (entry.CreateSession a) _ k s none = s
text_only old now (entry.ReadOnly p d) (reply.Text x) k s none = none x refl
text_only old now (entry.ReadOnly p d) _ k s none = s
text_only old now _ r k s none = k

pub done_only : (old now : Seen) (e : DirEntry) (r : DirReply) → IsDone e → Step old now e r → ((x : _) → r ≡ reply.Done x → ⊥) → ⊥
done_only old now (entry.DeleteGroup g) (reply.Done x) k s none = none x refl
done_only old now (entry.DeleteGroup g) _ k s none = s
done_only old now (entry.DropGroupPad p) (reply.Done x) k s none = none x refl
done_only old now (entry.DropGroupPad p) _ k s none = s
done_only old now (entry.DeleteSession i) (reply.Done x) k s none = none x refl
done_only old now (entry.DeleteSession i) _ k s none = s
done_only old now _ r k s none = k

pub infos_only : (old now : Seen) (e : DirEntry) (r : DirReply) → HasSessions e → Step old now e r → ((x : _) → r ≡ reply.Sessions x → ⊥) → ⊥
infos_only old now (entry.SessionsOfGroup g) (reply.Sessions x) k s none = none x refl
infos_only old now (entry.SessionsOfGroup g) _ k s none = s
infos_only old now (entry.SessionsOfAuthor a) (reply.Sessions x) k s none = none x refl
infos_only old now (entry.SessionsOfAuthor a) _ k s none = s
infos_only old now _ r k s none = k

pub texts_only : (old now : Seen) (e : DirEntry) (r : DirReply) → HasTexts e → Step old now e r → ((x : _) → r ≡ reply.Texts x → ⊥) → ⊥
texts_only old now entry.Groups (reply.Texts x) k s none = none x refl
texts_only old now entry.Groups _ k s none = s
texts_only old now _ r k s none = k

pub pad_only : (old now : Seen) (e : DirEntry) (r : DirReply) → HasPad e → Step old now e r → ((x : _) → r ≡ reply.Pad x → ⊥) → ⊥
pad_only old now (entry.AddGroupPad g n) (reply.Pad x) k s none = none x refl
pad_only old now (entry.AddGroupPad g n) _ k s none = s
pad_only old now _ r k s none = k

pub pads_only : (old now : Seen) (e : DirEntry) (r : DirReply) → HasPads e → Step old now e r → ((x : _) → r ≡ reply.Pads x → ⊥) → ⊥
pads_only old now (entry.GroupPads g) (reply.Pads x) k s none = none x refl
pads_only old now (entry.GroupPads g) _ k s none = s
pads_only old now _ r k s none = k

pub info_only : (old now : Seen) (e : DirEntry) (r : DirReply) → HasSession e → Step old now e r → ((x : _) → r ≡ reply.Session x → ⊥) → ⊥
info_only old now (entry.Session i) (reply.Session x) k s none = none x refl
info_only old now (entry.Session i) _ k s none = s
info_only old now _ r k s none = k

pub granted_only : (old now : Seen) (e : DirEntry) (r : DirReply) → HasGrant e → Step old now e r → ((x : _) → r ≡ reply.Grant x → ⊥) → ⊥
granted_only old now (entry.Grant a) (reply.Grant x) k s none = none x refl
granted_only old now (entry.Grant a) _ k s none = s
granted_only old now _ r k s none = k
