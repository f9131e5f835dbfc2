pub mod TogetherLemmas
