-- A page: a text of at most 8,192 bytes that grows at its end. Assumes nothing.
use Rattle.std.specs.Prelude.{◌≡◌, ℕ, List, ◌++◌, take}
use Rattle.text.specs.declared.pages.Page.{Page}

-- the bytes that the page holds
abbrev pub page_text : Page → List ℕ
page_text p = p.bytes.items

-- the page q holds what p holds and then bs, as far as there is room
pub record Appended (p : Page) (bs : List ℕ) (q : Page) : Type 0 where
  pub grown : page_text q ≡ take 8192 (page_text p ++ bs)
