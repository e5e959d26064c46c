-- A map from a lower table: the same map.
pub mod Start
