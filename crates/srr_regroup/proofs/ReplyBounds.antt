-- What a log's entry stands for in a replay has an entry within the bounds of a log of any group with the rank in it.
use Rattle.std.proofs.Common.{◌≡◌, ◌≤◌, ◌<◌, ◌∙◌, Err, List, None, Ok, Option, Result, Some, arith, false, length, refl, subst, sym, true, ℕ}
use Rattle.mpi_call.specs.declared.call.Call.{Call}
use Rattle.mpi_call.specs.declared.call.Call.TheVariants.{Abort, End, Enter, Peek, Post, Send, Take, Trap}
use Rattle.mpi_call.specs.declared.reply.Item.{Item}
use Rattle.mpi_call.specs.declared.reply.Reply.{Reply}
use Rattle.mpi_call.specs.declared.reply.Reply.TheVariants.{Done, NotYet, Peeked, Stopped, Took}
use Rattle.mpi_call.specs.Calls.{listed_by}
use Rattle.mpi_call.specs.Collectives.{is_member}
use Rattle.mpi_call.specs.Lists.{Rises}
use Rattle.run_model.specs.Forms.{IsInOrder}
use Rattle.run_model.specs.Shape.{gots_fit, has_shape}
use Rattle.run_model.specs.Views.{View, start_at}
use Rattle.srr_entry.specs.declared.entry.Entry.{Entry}
use Rattle.srr_entry.specs.declared.entry.Entry.TheVariants.{Ended, Entered, NotYet as EntryNotYet, PeekedInside, PeekedOutside, Posted, Sent, Stopped as EntryStopped, Took as EntryTook}
use Rattle.srr_entry.specs.declared.entry.Marked.{Marked}
use Rattle.srr_entry.specs.Entries.{entry_of}
use Rattle.srr_log.specs.Bounds.{IsEntry, is_last}
use Rattle.log_bounds.specs.RunBounds.{ReplyFits32}
use Rattle.log_bounds.proofs.RunEntries.{done_entry, peeked_entry, peeked_last}
use Rattle.replay_model.specs.declared.step.Missing.{Missing}
use Rattle.replay_model.specs.Filling.{as_took, fill_marks, filled_reply, peeked_from}
use Rattle.replay_model.specs.Fits.{entry_fits}
use Rattle.replay_model.proofs.ShapedFits.{take_shape}
use Rattle.srr_regroup.proofs.MarkBounds.{AreSendsBound, items_bound}

-- what a completion took
record TookFrom (made : Result (List Item) Missing) (reply : Reply) : Type 0 where
  items : List Item
  made_is : made ≡ Ok items
  reply_is : Took items ≡ reply

took_from : (made : Result (List Item) Missing) (reply : Reply) → as_took made ≡ Ok reply → TookFrom made reply
took_from (Err missing) reply h = absurd (cc)
took_from (Ok items) reply h = record { items = items; made_is = refl; reply_is = cc }

took_fit : (n me : ℕ) (own : View) (call : Call) (items : List Item) → has_shape n me own call (Took items) ≡ true
    → gots_fit n me own (listed_by call) items ≡ true
took_fit n me own (Take starts mode) items h = (take_shape n me own starts mode items h).gots
took_fit n me own (Send comm dest tag ints sync) items h = absurd (let no : false ≡ true = h in cc)
took_fit n me own (Post comm source tag room) items h = absurd (let no : false ≡ true = h in cc)
took_fit n me own (Enter comm kind root op count ints) items h = absurd (let no : false ≡ true = h in cc)
took_fit n me own (Peek comm source tag wait) items h = absurd (let no : false ≡ true = h in cc)
took_fit n me own (Abort code) items h = absurd (let no : false ≡ true = h in cc)
took_fit n me own (Trap fault) items h = absurd (let no : false ≡ true = h in cc)
took_fit n me own End items h = absurd (let no : false ≡ true = h in cc)

-- a reply's entry for a group is within its bounds
abbrev pub IsReplyBound : ℕ → List ℕ → ℕ → View → Call → Reply → Type 0
IsReplyBound n group me own call reply = IsEntry n group (entry_of n group me own call reply)

found_bound : (n : ℕ) (group : List ℕ) (V : ℕ → View) (own : View) (me : ℕ) (call : Call) (source start : ℕ) (found : Option Call) (reply : Reply)
    → AreSendsBound V → source < n → start ≤ 999999 → start_at (V source) start ≡ found → peeked_from source start found ≡ Ok reply
    → IsReplyBound n group me own call reply
found_bound n group V own me call source start None reply sends below small at h = absurd (cc)
found_bound n group V own me call source start (Some (Send c d tag ints sync)) reply sends below small at h =
    let same : Peeked source start tag (length ints) ≡ reply = cc in
    let s = sends.each source start c d tag ints sync at in
    subst (IsReplyBound n group me own call) same (peeked_entry (is_member group source) n group source start tag (length ints) refl below small s.0 s.1)
found_bound n group V own me call source start (Some other) reply sends below small at h =
    (let same : NotYet ≡ reply = cc in subst (IsReplyBound n group me own call) same tt)

-- what is known of a reply of a replay beside its entry
pub record Given (n : ℕ) (group : List ℕ) (V : ℕ → View) (own : View) (me : ℕ) (call : Call) (reply : Reply) : Type 0 where
  pub few : n ≤ 64
  pub mine : is_member group me ≡ true
  pub order : IsInOrder n me own
  pub sends : AreSendsBound V
  pub shape : has_shape n me own call reply ≡ true
  pub words : ReplyFits32 reply

took_bound : (n : ℕ) (inside group : List ℕ) (V : ℕ → View) (own : View) (me : ℕ) (call : Call) (marks : List Marked) (items : List Item)
    → Given n group V own me call (Took items) → IsEntry n inside (EntryTook marks) → fill_marks n V me own (listed_by call) marks ≡ Ok items
    → IsReplyBound n group me own call (Took items)
took_bound n inside group V own me call marks items g is made =
    let others = items_bound n inside group V own me (listed_by call) marks items g.few g.mine g.order g.sends is.2 made (took_fit n me own call items g.shape) g.words in
    let many = others.many in
    let some = is.0 in
    let F : List ℕ → Type 0 = λ l. Rises 0 l in
    (omega (arith, many, some), subst F (sym others.indices) is.1, others.each)

-- an entry within the bounds of a log stands for a reply whose entry for another group is within its bounds
pub entry_bound : (n : ℕ) (inside group : List ℕ) (V : ℕ → View) (own : View) (me : ℕ) (call : Call) (entry : Entry) (reply : Reply)
    → Given n group V own me call reply → IsEntry n inside entry → filled_reply n V me own call entry ≡ Ok reply → IsReplyBound n group me own call reply
entry_bound n inside group V own me call Sent reply g is made = (let same : Done ≡ reply = cc in subst (IsReplyBound n group me own call) same (done_entry n group call))
entry_bound n inside group V own me call Posted reply g is made = (let same : Done ≡ reply = cc in subst (IsReplyBound n group me own call) same (done_entry n group call))
entry_bound n inside group V own me call Entered reply g is made = (let same : Done ≡ reply = cc in subst (IsReplyBound n group me own call) same (done_entry n group call))
entry_bound n inside group V own me call Ended reply g is made = (let same : Done ≡ reply = cc in subst (IsReplyBound n group me own call) same (done_entry n group call))
entry_bound n inside group V own me call EntryNotYet reply g is made = (let same : NotYet ≡ reply = cc in subst (IsReplyBound n group me own call) same tt)
entry_bound n inside group V own me call (EntryStopped halt) reply g is made = (let same : Stopped halt ≡ reply = cc in subst (IsReplyBound n group me own call) same is)
entry_bound n inside group V own me call (PeekedInside source start) reply g is made =
    found_bound n group V own me call source start (start_at (V source) start) reply g.sends is.0.0 is.1 refl made
entry_bound n inside group V own me call (PeekedOutside source start tag count) reply g is made =
    let same : Peeked source start tag count ≡ reply = cc in
    subst (IsReplyBound n group me own call) same (peeked_entry (is_member group source) n group source start tag count refl is.0.0 is.1 is.2 is.3)
entry_bound n inside group V own me call (EntryTook marks) reply g is made =
    let took = took_from (fill_marks n V me own (listed_by call) marks) reply made in
    let G : Reply → Type 0 = λ r. Given n group V own me call r in
    subst (IsReplyBound n group me own call) took.reply_is (took_bound n inside group V own me call marks took.items (subst G (sym took.reply_is) g) is took.made_is)

-- a reply is the last of its rank only where the entry is
found_last : (n : ℕ) (group : List ℕ) (own : View) (me : ℕ) (call : Call) (source start : ℕ) (found : Option Call) (reply : Reply) {P : Type 0}
    → peeked_from source start found ≡ Ok reply → is_last (entry_of n group me own call reply) ≡ true → P
found_last n group own me call source start None reply h last = absurd (cc)
found_last n group own me call source start (Some (Send c d tag ints sync)) reply h last =
    let same : Peeked source start tag (length ints) ≡ reply = cc in
    let F : Reply → Type 0 = λ r. is_last (entry_of n group me own call r) ≡ true in
    peeked_last (is_member group source) source start tag (length ints) (subst F (sym same) last)
found_last n group own me call source start (Some other) reply h last =
    let same : NotYet ≡ reply = cc in
    let F : Reply → Type 0 = λ r. is_last (entry_of n group me own call r) ≡ true in
    absurd (let no : false ≡ true = subst F (sym same) last in cc)

not_last : (n : ℕ) (group : List ℕ) (own : View) (me : ℕ) (call : Call) (given reply : Reply) {P : Type 0} → given ≡ reply
    → is_last (entry_of n group me own call given) ≡ false → is_last (entry_of n group me own call reply) ≡ true → P
not_last n group own me call given reply same going last =
    let F : Reply → Type 0 = λ r. is_last (entry_of n group me own call r) ≡ true in
    let given_last : is_last (entry_of n group me own call given) ≡ true = subst F (sym same) last in
    absurd (let no : true ≡ false = sym given_last ∙ going in cc)

pub last_entry : (n : ℕ) (inside group : List ℕ) (V : ℕ → View) (own : View) (me : ℕ) (call : Call) (entry : Entry) (reply : Reply)
    → entry_fits n inside me own call entry ≡ true → filled_reply n V me own call entry ≡ Ok reply → is_last (entry_of n group me own call reply) ≡ true → is_last entry ≡ true
unfolding entry_fits
last_entry n inside group V own me call (EntryStopped halt) reply fit made last = refl
last_entry n inside group V own me call Ended reply fit made last = refl
last_entry n inside group V own me (Send comm dest tag ints sync) Sent reply fit made last = not_last n group own me (Send comm dest tag ints sync) Done reply (cc) refl last
last_entry n inside group V own me (Post comm source tag room) Posted reply fit made last = not_last n group own me (Post comm source tag room) Done reply (cc) refl last
last_entry n inside group V own me (Enter comm kind root op count ints) Entered reply fit made last = not_last n group own me (Enter comm kind root op count ints) Done reply (cc) refl last
last_entry n inside group V own me call EntryNotYet reply fit made last = not_last n group own me call NotYet reply (cc) refl last
last_entry n inside group V own me call (PeekedInside source start) reply fit made last =
    found_last n group own me call source start (start_at (V source) start) reply made last
last_entry n inside group V own me call (PeekedOutside source start tag count) reply fit made last =
    let same : Peeked source start tag count ≡ reply = cc in
    let F : Reply → Type 0 = λ r. is_last (entry_of n group me own call r) ≡ true in
    peeked_last (is_member group source) source start tag count (subst F (sym same) last)
last_entry n inside group V own me call (EntryTook marks) reply fit made last =
    let took = took_from (fill_marks n V me own (listed_by call) marks) reply made in
    not_last n group own me call (Took took.items) reply took.reply_is refl last
last_entry n inside group V own me call entry reply fit made last = absurd (cc)
