-- What makes a weight of paths lawful. Assumes nothing.
use Rattle.std.specs.Prelude.{◌≡◌}

pub record Laws {W : Type 0} (none empty : W) (choose join : W → W → W) : Type 0 where
  -- among three paths it does not matter which two are compared first
  pub choose_assoc : (x y z : W) → choose (choose x y) z ≡ choose x (choose y z)
  -- nor in which order two are named
  pub choose_comm : (x y : W) → choose x y ≡ choose y x
  -- a path is no better than itself
  pub choose_same : (x : W) → choose x x ≡ x
  -- of three paths in a row it does not matter which two are joined first
  pub join_assoc : (x y z : W) → join (join x y) z ≡ join x (join y z)
  -- the choice between two ways on, after a path, is a choice between the two whole paths
  pub join_choose : (x y z : W) → join x (choose y z) ≡ choose (join x y) (join x z)
  -- and so is the choice between two ways here, before a path
  pub choose_join : (x y z : W) → join (choose x y) z ≡ choose (join x z) (join y z)
  -- any path is as good as the choice between it and no path
  pub none_choose : (x : W) → choose none x ≡ x
  -- where the first part or the second part is missing, there is no whole path
  pub none_join : (x : W) → join none x ≡ none
  pub join_none : (x : W) → join x none ≡ none
  -- the empty path adds nothing before a path or after it
  pub empty_join : (x : W) → join empty x ≡ x
  pub join_empty : (x : W) → join x empty ≡ x
  -- and no path is better than the empty one
  pub empty_choose : (x : W) → choose empty x ≡ empty
