-- A reply with one question that was written out is proper, and so is accepted as the other server's where it is ours (02, CR 12). Assumes nothing.
use Prim.Native.Nat.{ℕ, ◌≤◌}
use mathlib.Core.Path.{◌≡◌}
use mathlib.Core.Bool.{true}
use mathlib.Core.List.{List}
use lib.Dec.{leb}
use lib.ListN.{length}
use borrow.Author.Tests.{le-leb}
use Rattle.model.specs.Names.{wire_name}
use Rattle.model.specs.Calls.{DONE, size_ok}
use Rattle.model.specs.Compare.{verdict, compared, Proper}
use Rattle.model.proofs.Tests.{both}
use Rattle.model.proofs.CompareLaws.{own_accepted}
use Rattle.model.proofs.CompareBack.{long}
use Rattle.printed.specs.Printed.{Entry, AllRead, message_octets, message_shown}
use Rattle.printed.proofs.Messages.{message_read}

module _ (id f g : ℕ) (name : List ℕ) (type class : ℕ) (answers additionals : List Entry) (named : wire_name name ≡ true) (first : AllRead answers) (last : AllRead additionals)
    (fits : length (message_octets id f g name type class answers additionals) ≤ 65535) where
  abbrev m : List ℕ
  m = message_octets id f g name type class answers additionals

  pub written_proper : Proper (message_octets id f g name type class answers additionals)
  unfolding size_ok
  written_proper =
      let e = message_read id f g name type class answers additionals named first last in
      record {
        size = both (leb 12 (length m)) (leb (length m) 65535) (le-leb 12 (length m) (long m (message_shown id f name type class answers additionals) (length m) e)) (le-leb (length m) 65535 fits);
        message = message_shown id f name type class answers additionals;
        end = length m;
        says = e;
      }

  pub written_accepted : compared (message_octets id f g name type class answers additionals) (message_octets id f g name type class answers additionals) ≡ verdict DONE 0
  written_accepted = own_accepted m written_proper
