-- From the calls on slices to those on arrays, which have a table's lengths. Assumes nothing.
use Prim.Native.Nat.{ℕ, ◌/◌}
use mathlib.Core.List.{List, [], ◌∷◌}
use mathlib.Core.Bool.{Bool}
use mathlib.Core.Path.{◌≡◌, sym, ap, ◌∙◌}
use lib.ListN.{length}
use Rattle.model.specs.Octets.{put}
use Rattle.model.specs.Tables.{Table}
use Rattle.model.specs.Calls.{DONE, TABLE, ROOM}
use Rattle.model.specs.Loading as model
use Rattle.model.specs.Loading.{list_in, list_number, Loaded, load, load_number, load_line, Mended, mend, mend_in, mended_in, mend_number, mend_line}
use Rattle.store.specs.Layout.{table_of}
use Rattle.octets.proofs.Laws.{wrote_put}
use Rattle.std.specs.Prelude.{Result, Ok, Err}
use Rattle.listing.specs.declared.ListError.{ListError}
use Rattle.listing.specs.declared.ListError.TheVariants.{Broken, Long}
use Rattle.listing.specs.Listed.{shown, Left, Lists}
use Rattle.loading.specs.declared.Ended.{Ended}
use Rattle.loading.specs.declared.Mending.{Mending}
use Rattle.loading.specs.Walk.{named_words}
use Rattle.loading.specs.Loads.{load_into, table_after, Loads, mend_into, table_mended, dropped_by, mends_as, Mends}
use Rattle.loading.proofs.Ends.{lends_both}
use Rattle.capi_listing.specs.Told.{listed_number, listed_size, text_of, ListedTold, EndTold, MendingTold, ListLent, LoadLent, MendLent}

pub list_lent : {t : Table} {text text' told : List ℕ} {l : Result ℕ ListError} {r : ℕ} → Lists t text text' l → ListedTold l told r → ListLent t text text' told r
unfolding list_number put DONE TABLE ROOM
list_lent {t} {text} {text'} {told} {l} {r} v e = go l v.says v.left e.written e.returned
  where
    go : (l : Result ℕ ListError) → list_in (length text) t ≡ shown t l → Left t text text' l → told ≡ listed_size l ∷ [] → r ≡ listed_number l → ListLent t text text' told r
    go (Ok n) s x w n-is = record {
      returned = n-is ∙ ap list_number (sym s);
      written = w ∙ ap (λ (n : ℕ). n ∷ []) (wrote_put x).0 ∙ ap (λ (m : model.Listed). length (text_of m) ∷ []) (sym s);
      text_is = (wrote_put x).1 ∙ ap (λ (m : model.Listed). put (text_of m) text) (sym s);
    }
    go (Err Broken) s x w n-is = record { returned = n-is ∙ ap list_number (sym s); written = w ∙ ap (λ (m : model.Listed). length (text_of m) ∷ []) (sym s); text_is = x ∙ ap (λ (m : model.Listed). put (text_of m) text) (sym s) }
    go (Err Long) s x w n-is = record { returned = n-is ∙ ap list_number (sym s); written = w ∙ ap (λ (m : model.Listed). length (text_of m) ∷ []) (sym s); text_is = x ∙ ap (λ (m : model.Listed). put (text_of m) text) (sym s) }

pub load_lent :
    {text w s w' s' line : List ℕ} {e : Ended} {r : ℕ} → length w ≡ 1091 → length s ≡ 8192
    → Loads text w s w' s' e → EndTold e line r → LoadLent text w s w' s' line r
load_lent {text} {w} {s} long wide v t =
    let is = ap (λ (b : Bool). load_into b (load text)) (lends_both w s long wide) in
    record {
      returned = t.returned ∙ ap (λ (e : Ended). e.number) v.says ∙ ap (λ (l : Loaded). load_number l) is;
      written = t.written ∙ ap (λ (e : Ended). e.line ∷ []) v.says ∙ ap (λ (l : Loaded). load_line l ∷ []) is;
      table = v.table ∙ ap (table_after (table_of w s)) is;
      refused = λ n. v.refused (λ x. n (t.returned ∙ x));
    }

pub mend_lent :
    {text w s named w' s' named' told : List ℕ} {m : Mending} {r : ℕ} → length w ≡ 1091 → length s ≡ 8192
    → Mends text w s named w' s' named' m → MendingTold m told r → MendLent text w s named w' s' named' told r
unfolding mend_in
mend_lent {text} {w} {s} {named} long wide v t =
    let is : mends_as text w s named ≡ mend_in (length named / 2) text = ap (λ (b : Bool). mended_in (length named / 2) (mend_into b (mend text))) (lends_both w s long wide) in
    record {
      returned = t.returned ∙ ap (λ (m : Mending). m.number) v.says ∙ ap (λ (m : Mended). mend_number m) is;
      written = t.written ∙ ap (λ (m : Mending). m.line ∷ m.dropped ∷ []) v.says ∙ ap (λ (m : Mended). mend_line m ∷ length (dropped_by m) ∷ []) is;
      table = v.table ∙ ap (table_mended (table_of w s)) is;
      names = v.names ∙ ap (λ (m : Mended). put (named_words (dropped_by m)) named) is;
      refused = λ n. v.refused (λ x. n (t.returned ∙ x));
    }
