pub mod RedLaws
