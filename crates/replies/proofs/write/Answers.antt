-- `replies::write` meets its contract. Assumes nothing.
use mathlib.Core.Path.{refl}
use Rattle.model.specs.Replies.{reply_of}
use Rattle.replies.proofs.Answers.{answers_none, read_so, refused_fits, failed_fits, renews_fits, none_replies, refused_replies, tkey_replies, readopted_replies, renewed_replies}
use Rattle.replies.proofs.write.Goals as goal

pub rcode_reply-requires : goal.rcode_reply-requires
rcode_reply-requires c =
    (read_so c.requires.0, refused_fits c.args.d c.args.at.pair c.args.at.time c.requires.1 _ _ c.in-Refused.is)

pub outcome-requires : goal.outcome-requires
outcome-requires c =
    (c.requires.0, failed_fits c.args.d c.args.at.pair c.args.at.time c.requires.1 _ c.in-Failed.is)

pub renewal-requires : goal.renewal-requires
renewal-requires c =
    let f = renews_fits c.args.d c.args.at.pair c.args.at.time c.requires.1 _ _ c.in-Renews.is in
    (c.requires.0, f.0, f.1, c.requires.2, c.requires.3)

pub returns-in-Unsigned : goal.returns-in-Unsigned
unfolding reply_of
returns-in-Unsigned c = none_replies (λ h g q. rw c.in-Unsigned.is refl) (answers_none c.args.buf.now)

pub returns-in-Refused : goal.returns-in-Refused
unfolding reply_of
returns-in-Refused c = refused_replies _ (λ h g q. rw c.in-Refused.is refl) c.rcode_reply.ensures

pub returns-in-Passed : goal.returns-in-Passed
unfolding reply_of
returns-in-Passed c = none_replies (λ h g q. rw c.in-Passed.is refl) (answers_none c.args.buf.now)

pub returns-in-Failed : goal.returns-in-Failed
unfolding reply_of
returns-in-Failed c = tkey_replies _ (λ h g q. rw c.in-Failed.is refl) c.outcome.ensures

pub returns-in-Renews : goal.returns-in-Renews
returns-in-Renews c = renewed_replies _ _ c.in-Renews.is c.renewal.ensures

pub returns-in-Adopts : goal.returns-in-Adopts
unfolding reply_of
returns-in-Adopts c = tkey_replies 0 (λ h g q. rw c.in-Adopts.is refl) c.outcome-in-Adopts.ensures

pub returns-in-Readopts : goal.returns-in-Readopts
unfolding reply_of
returns-in-Readopts c = readopted_replies (λ h g q. rw c.in-Readopts.is refl) c.outcome-in-Readopts.ensures

pub returns-in-Deletes : goal.returns-in-Deletes
unfolding reply_of
returns-in-Deletes c = tkey_replies 0 (λ h g q. rw c.in-Deletes.is refl) c.outcome-in-Deletes.ensures

pub returns-in-Withdraws : goal.returns-in-Withdraws
unfolding reply_of
returns-in-Withdraws c = tkey_replies 0 (λ h g q. rw c.in-Withdraws.is refl) c.outcome-in-Withdraws.ensures
