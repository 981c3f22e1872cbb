-- `contents::contents_of` meets its contract. Assumes nothing.
use Rattle.contents.proofs.Laws.{whole}
use Rattle.contents.proofs.contents_of.Goals as goal

pub returns : goal.returns
returns c = whole c.requires.0 c.requires.1 c.is_response.ensures c.signed_by-signer.ensures c.tkey_by-tkey.ensures c.key_by-key.ensures
